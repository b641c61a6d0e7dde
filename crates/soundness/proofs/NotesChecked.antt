-- The check of the whole is soundness: what the base's rules and the notes' rules say together is that the bytes are those of the state read, notes included.
use Rattle.std.proofs.Common.{◌≡◌, ℕ, zero, suc, ◌+◌, ◌-◌, ◌<◌, ◌≤◌, Bool, true, false, ◌&&◌, ltb, leb, List, ◌++◌, length, get_or, sym, refl, ap, ◌∙◌, subst, arith, take-append-drop, ltb-false, ltb-true, eq-eqb, eqb-true, le-leb, leb-false, leb-true}
use mathlib.Core.Bool.{false≢true, and_assoc}
use lib.ListN.{get_or-eq_default}
use Rattle.lists.specs.Tabs.{tab}
use Rattle.lists.proofs.TabLaws.{get_d_tab, tab-last, length-tab}
use Rattle.lists.proofs.TestLaws.{same_bool, and-true, true-and}
use Rattle.octets.specs.Number.{Bytes}
use Rattle.rules.specs.Numbers.{slots, cells, listed}
use Rattle.rules.specs.State.{Record, Channel, State, blank, at}
use Rattle.rules.specs.Fullest.{lengths_of, bytes_in, fullest_by}
use Rattle.rules.specs.Facts.{Sound}
use Rattle.rules.proofs.Filling.{lengths_append}
use Rattle.rules.proofs.Ranked.{fullest-few, fullest-same}
use Rattle.memory.specs.Names as the
use Rattle.memory.specs.Layout.{note_place, notes_of, memory_of, bytes_of, base_length, memory_length}
use Rattle.memory.specs.Reading.{waiting_at, first_at, record_at, channel_at, row_count_at, state_of, bytes_at, listed_at, list_at}
use Rattle.memory.specs.Memory.{same, base, noted, sound_bytes, sound_base}
use Rattle.memory.proofs.Base.{length-base, get_d_base, first-base, number-base, waiting-base, state_of-base, bytes_small}
use Rattle.memory.proofs.SoundFits.{sound-fits}
use Rattle.memory.proofs.NoteLaws.{bytes_read, listed-read, place_read, list_read, notes-only}
use Rattle.memory.proofs.OneMemory.{same_true, true_same, sound-memory, memory-sound, base-sound, noted-is, base_of_sound}
use Rattle.fullest.specs.Listing.{slot_at, slots_from}
use Rattle.fullest.proofs.NotingLaws.{slots-listed}
use Rattle.fullest.proofs.BytesRead.{bytes_fit}
use Rattle.soundness.specs.Check.{clear, heads_rule, pool_rule, length_rule, lengths_rule, behind_rule, cells_rule, rows_rule, scan_rule, rest_rule, passes}
use Rattle.soundness.specs.Notes.{length_at, sum_of, bytes_rule, sums_rule, Counted, fullest_rule}
use Rattle.soundness.proofs.CheckTurns.{all-at, all_intro, all_same}
use Rattle.soundness.proofs.CheckFacts.{clear_at, at_clear}
use Rattle.soundness.proofs.HeadFacts.{heads-at, pool-total}
use Rattle.soundness.proofs.Checked.{check_is-sound}

-- ---- a slot's sum is the bytes that wait in it

sum-lengths : (b : List ℕ) (p n : ℕ) → sum_of (length_at b) p n ≡ lengths_of (tab n (λ k. record_at b (p + k)))
unfolding sum_of lengths_of tab record_at
sum-lengths b p zero = refl
sum-lengths b p (suc n) =
    sym
    (ap lengths_of (tab-last n (λ k. record_at b (p + k)))
    ∙ lengths_append (tab n (λ k. record_at b (p + k))) _
    ∙ last (record_at b (p + n)) (lengths_of (tab n (λ k. record_at b (p + k)))) (sum_of (length_at b) p n) (sum-lengths b p n))
  where
    last : (r : Record) (x y : ℕ) → y ≡ x → x + (r.length + 0) ≡ y + r.length
    last r x y e = omega arith

pub sum-read : (b : List ℕ) (i : ℕ) → i < slots → sum_of (length_at b) (first_at b i) (waiting_at b i) ≡ bytes_in (state_of b).channels i
unfolding state_of channel_at
sum-read b i l =
    let here : at (tab slots (channel_at b)) i ≡ channel_at b i = get_d_tab slots (channel_at b) i blank l in
    sum-lengths b (first_at b i) (waiting_at b i) ∙ sym (ap (λ (c : Channel). lengths_of c.waiting) here)

-- ---- the notes' rules are what soundness asks of the notes

-- a memory is its base and its notes
pub both-parts : (b : List ℕ) (s : State) → base b ≡ bytes_of s → noted b ≡ notes_of s → b ≡ memory_of s
unfolding memory_of
both-parts b s p q = sym (take-append-drop base_length b) ∙ rw (p, q) refl

-- where the base is sound, the whole stands for the base's state
pub whole-stands : (b : List ℕ) → sound_base (base b) ≡ true → state_of (base b) ≡ state_of b
whole-stands b e =
    let m = base-sound (base b) e in
    let is : b ≡ bytes_of (state_of (base b)) ++ noted b = sym (take-append-drop base_length b) ∙ ap (λ (x : List ℕ). x ++ noted b) (sym m.bytes) in
    sym (ap state_of is ∙ state_of-base (sound-fits m.state) (noted b))

module _ (b : List ℕ) (fits : Bytes b) (size : length b ≡ memory_length) where
  small : (i : ℕ) → i < slots → bytes_at b i < 65536
  small i l = bytes_fit b i fits

  notes-right : Sound (state_of b) → sums_rule b ≡ true → fullest_rule b ≡ true → noted b ≡ notes_of (state_of b)
  unfolding sums_rule bytes_rule fullest_rule
  notes-right S sums list =
      let f = bytes_in (state_of b).channels in
      let lanes : (i : ℕ) → i < slots → bytes_at b i ≡ f i
      = λ i l. eqb-true (bytes_at b i) (sum_of (length_at b) (first_at b i) (waiting_at b i)) (all-at slots (bytes_rule b) sums i l) ∙ sum-read b i l in
      let (few, more) = and-true (leb (listed_at b) listed) (clear b (note_place the.fullest + listed_at b) (listed - listed_at b) && same (slots_from b 0 (listed_at b)) (fullest_by (bytes_at b))) list in
      let (none, same-list) = and-true (clear b (note_place the.fullest + listed_at b) (listed - listed_at b)) (same (slots_from b 0 (listed_at b)) (fullest_by (bytes_at b))) more in
      let is : list_at b ≡ fullest_by f
      = sym (slots-listed b) ∙ same_true (slots_from b 0 (listed_at b)) (fullest_by (bytes_at b)) same-list ∙ fullest-same (bytes_at b) f lanes in
      notes-only f (bytes_small S) b fits size lanes
      (sym (length-tab (listed_at b) (slot_at b)) ∙ ap length is)
      (λ k l. place k l (leb (listed_at b) k) refl none ∙ ap (λ (x : List ℕ). get_or x k 0) is)
    where
      place : (k : ℕ) → k < listed → (t : Bool) → leb (listed_at b) k ≡ t → clear b (note_place the.fullest + listed_at b) (listed - listed_at b) ≡ true
          → slot_at b k ≡ get_or (list_at b) k 0
      place k l true q none =
          let h : listed_at b ≤ k = leb-true (listed_at b) k q in
          let e : note_place the.fullest + listed_at b + (k - listed_at b) ≡ note_place the.fullest + k = omega arith in
          ap (λ (p : ℕ). get_or b p 0) (sym e) ∙ clear_at b (note_place the.fullest + listed_at b) (listed - listed_at b) none (k - listed_at b) (omega arith)
          ∙ sym (get_or-eq_default (list_at b) 0 (rw (length-tab (listed_at b) (slot_at b)) h))
      place k l false q none = sym (get_d_tab (listed_at b) (slot_at b) k 0 (leb-false (listed_at b) k q))

  right-notes : Sound (state_of b) → noted b ≡ notes_of (state_of b) → (sums_rule b ≡ true) × (fullest_rule b ≡ true)
  unfolding sums_rule bytes_rule fullest_rule
  right-notes S is =
      let f = bytes_in (state_of b).channels in
      let lanes : (i : ℕ) → i < slots → bytes_at b i ≡ f i = bytes_read f (bytes_small S) b is in
      let count = listed-read f (bytes_small S) b is in
      let few : listed_at b ≤ listed = omega (arith, count, fullest-few f) in (
        all_intro slots (bytes_rule b) (λ i l. eq-eqb (bytes_at b i) (sum_of (length_at b) (first_at b i) (waiting_at b i)) (lanes i l ∙ sym (sum-read b i l))),
        true-and (le-leb (listed_at b) listed few)
            (true-and
            (at_clear b (note_place the.fullest + listed_at b) (listed - listed_at b)
            (λ k l.
            let e : note_place the.fullest + listed_at b + k ≡ note_place the.fullest + (listed_at b + k) = omega arith in
            ap (λ (p : ℕ). get_or b p 0) e ∙ place_read f (bytes_small S) b is (listed_at b + k) (omega arith)
            ∙ get_or-eq_default (fullest_by f) 0 (omega (arith, count))))
            (rw (slots-listed b ∙ list_read f (bytes_small S) b is ∙ fullest-same f (bytes_at b) (λ i l. sym (lanes i l))) (true_same (fullest_by (bytes_at b))))),
      )

  -- ---- the whole

  whole_is : sound_bytes b ≡ (sound_base (base b) && (sums_rule b && fullest_rule b))
  whole_is =
      same_bool (sound_bytes b) (sound_base (base b) && (sums_rule b && fullest_rule b))
      (λ e.
      let (sums, list) = right-notes (memory-sound b e).state (noted-is b e) in
      true-and (base_of_sound b e) (true-and sums list))
      (λ e.
      let (h, more) = and-true (sound_base (base b)) (sums_rule b && fullest_rule b) e in
      let (sums, list) = and-true (sums_rule b) (fullest_rule b) more in
      let stands = whole-stands b h in
      let S : Sound (state_of b) = rw (← stands) (base-sound (base b) h).state in
      let is_base : base b ≡ bytes_of (state_of b) = sym (base-sound (base b) h).bytes ∙ ap bytes_of stands in
      let is : b ≡ memory_of (state_of b) = both-parts b (state_of b) is_base (notes-right S sums list) in
      subst (λ (x : List ℕ). sound_bytes x ≡ true) (sym is) (sound-memory S))

  -- ---- and the order in which the code asks

  pub first-same : first_at (base b) slots ≡ first_at b slots
  first-same = first-base b (omega arith) slots (omega arith)

  lengths-same : first_at b slots ≤ cells → lengths_rule b (first_at b slots) ≡ lengths_rule (base b) (first_at (base b) slots)
  unfolding lengths_rule
  lengths-same few =
      rw first-same
      (all_same (first_at b slots) (λ p. length_rule (length_at b p)) (λ p. length_rule (length_at (base b) p))
      (λ p l. ap length_rule (sym (number-base b (omega arith) the.length p (omega arith) (omega arith)))))

  fits-base : Bytes (base b)
  fits-base i = go (ltb i base_length) refl
    where
      go : (t : Bool) → ltb i base_length ≡ t → get_or (base b) i 0 < 256
      go true q = rw (get_d_base b (omega arith) i (ltb-true i base_length q)) (fits i)
      go false q =
          let behind : length (base b) ≤ i = omega (arith, length-base b (omega arith), ltb-false i base_length q) in
          rw (get_or-eq_default (base b) 0 behind) (omega arith)

  -- the base's rules, and the notes'
  asked : sound_bytes b ≡ ((heads_rule (base b) && (pool_rule (base b) && (cells_rule (base b) (first_at (base b) slots) && (rows_rule (base b) (row_count_at (base b)) && (scan_rule (base b) && true)))))
      && (sums_rule b && fullest_rule b))
  unfolding passes
  asked =
      whole_is
      ∙ ap (λ (t : Bool). t && (sums_rule b && fullest_rule b)) (sym (check_is-sound (base b) fits-base))
      ∙ rw (eq-eqb (length (base b)) base_length (length-base b (omega arith))) refl

  pub slots-wrong : (heads_rule (base b) && pool_rule (base b)) ≡ false → false ≡ sound_bytes b
  slots-wrong e = sym (asked ∙ go (heads_rule (base b)) (pool_rule (base b)) _ _ e)
    where
      go : (h p x y : Bool) → (h && p) ≡ false → ((h && (p && x)) && y) ≡ false
      go false p x y e = refl
      go true false x y e = refl
      go true true x y e = absurd (false≢true (sym e))

  -- what the sums may take for granted
  pub counted : (heads_rule (base b) && pool_rule (base b)) ≡ true → Counted b (first_at b slots)
  counted e =
      let (heads, pool) = and-true (heads_rule (base b)) (pool_rule (base b)) e in
      record {
        all = refl;
        few = rw (← first-same) (pool-total (base b) pool);
        room = λ i l. rw (← waiting-base b (omega arith) i l) (heads-at (base b) heads i l).few;
      }

  pub slots-right : (heads_rule (base b) && pool_rule (base b)) ≡ true
      → ((lengths_rule b (first_at b slots) && sums_rule b) && (rest_rule (base b) && fullest_rule b)) ≡ sound_bytes b
  unfolding cells_rule rest_rule
  slots-right e =
      let (heads, pool) = and-true (heads_rule (base b)) (pool_rule (base b)) e in
      rw (lengths-same (counted e).few)
      (go (lengths_rule (base b) (first_at (base b) slots)) (behind_rule (base b) (first_at (base b) slots)) (rows_rule (base b) (row_count_at (base b))) (scan_rule (base b)) (sums_rule b) (fullest_rule b)
      ∙ sym (asked ∙ rw (heads, pool) refl))
    where
      and_none : (a : Bool) → (a && false) ≡ false
      and_none true = refl
      and_none false = refl

      go : (l d r s u f : Bool) → ((l && u) && ((d && (r && s)) && f)) ≡ (((l && d) && (r && (s && true))) && (u && f))
      go false d r s u f = refl
      go true d r s false f = sym (and_none (d && (r && (s && true))))
      go true false r s true f = refl
      go true true false s true f = refl
      go true true true false true f = refl
      go true true true true true f = refl

  -- the parts in the order in which the code asks for them
  pub parts : ((((heads_rule (base b) && pool_rule (base b)) && (lengths_rule b (first_at b slots) && sums_rule b)) && rest_rule (base b)) && fullest_rule b) ≡ sound_bytes b
  parts = go (heads_rule (base b) && pool_rule (base b)) refl
    where
      go : (t : Bool) → (heads_rule (base b) && pool_rule (base b)) ≡ t
          → ((((heads_rule (base b) && pool_rule (base b)) && (lengths_rule b (first_at b slots) && sums_rule b)) && rest_rule (base b)) && fullest_rule b) ≡ sound_bytes b
      go true e = rw e (and_assoc (lengths_rule b (first_at b slots) && sums_rule b) (rest_rule (base b)) (fullest_rule b) ∙ slots-right e)
      go false e = rw e (slots-wrong e)
