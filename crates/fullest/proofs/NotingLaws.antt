-- The notes after one slot's bytes are written, the entry moved and the list stored: right for the bytes as they are now.
use Prim.Native.Nat.{ℕ, zero, suc, ◌+◌, ◌≤◌, ◌<◌}
use mathlib.Core.Path.{◌≡◌, refl, sym, ap, ◌∙◌}
use mathlib.Core.Bool.{Bool, true, false, cond}
use mathlib.Core.List.{List, ◌++◌}
use native.Mathlib.Omega.{arith}
use lib.Dec.{eqb, ltb}
use lib.ListN.{length, get_or, take, set, length-set, get_or-eq_default, length-append, length-drop}
use lib.Seq.{length-take-le, get_or-set_same, take-set-le, take-take, get_or-take}
use Rattle.std.proofs.lemmas.List.{get_or_append_left, get_or-append-add}
use Rattle.std.proofs.lemmas.Slice.{take-put_mid_below}
use borrow.Rule.Slice.PartMut.{put_mid}
use borrow.Author.Tests.{eq-eqb, ne_eqb, ltb-true, ltb-false}
use Rattle.lists.specs.Tabs.{tab}
use Rattle.lists.proofs.SlotsLaws.{if_eq}
use Rattle.lists.proofs.TabLaws.{tab-same}
use Rattle.octets.specs.Number.{upward, byte, put, Bytes}
use Rattle.octets.proofs.NumberLaws.{length-put, get_d_put-off, num-put-back, num-put-off, upward-apart}
use Rattle.rules.specs.Numbers.{slots, listed}
use Rattle.rules.specs.Fullest.{fullest_by}
use Rattle.rules.proofs.Ranked.{fullest-few, fullest-same}
use Rattle.memory.specs.Names as the
use Rattle.memory.specs.Layout.{note_place, base_length, memory_length}
use Rattle.memory.specs.Reading.{bytes_at, listed_at, list_at}
use Rattle.memory.specs.Memory.{base}
use Rattle.memory.proofs.NoteLaws.{bytes_read, listed-read, list_read, notes-only}
use Rattle.fullest.specs.Listing.{slot_at, slots_from, Lists}
use Rattle.fullest.specs.Moved.{moved, Movable}
use Rattle.fullest.specs.Noted.{NotedBy, now_in}
use Rattle.fullest.proofs.BytesRead.{bytes_fit, bytes_read as read-two}
use Rattle.fullest.proofs.MovedLaws.{moved-law, movable}

-- ---- one by one, and all together

slots-tab : (b : List ℕ) (k n : ℕ) → slots_from b k n ≡ tab n (λ i. slot_at b (k + i))
unfolding tab
slots-tab b k zero = refl
slots-tab b k (suc n) =
    let here : slot_at b k ≡ slot_at b (k + 0) = let e : k ≡ k + 0 = omega arith in ap (slot_at b) e in
    let rest : tab n (λ i. slot_at b (k + 1 + i)) ≡ tab n (λ i. slot_at b (k + suc i))
    = tab-same n (λ i. slot_at b (k + 1 + i)) (λ i. slot_at b (k + suc i)) (λ i l. let e : k + 1 + i ≡ k + suc i = omega arith in ap (slot_at b) e) in
    rw (← here, slots-tab b (k + 1) n, rest) refl

pub slots-listed : (b : List ℕ) → slots_from b 0 (listed_at b) ≡ list_at b
slots-listed b =
    slots-tab b 0 (listed_at b) ∙ tab-same (listed_at b) (λ i. slot_at b (0 + i)) (slot_at b) (λ i l. let e : 0 + i ≡ i = omega arith in ap (slot_at b) e)

-- ---- the list stored: the count, and the five places as one

pub stored : (b line is part : List ℕ) (n : ℕ) → length b ≡ memory_length → length line ≡ listed + 1 → n ≤ listed → ((k : ℕ) → n ≤ k → k < listed → get_or line k 0 ≡ 0)
    → take n line ≡ is → part ≡ take listed line → Lists is b (put_mid (note_place the.fullest) listed (set b (note_place the.listed_count) n) part)
stored b line is part n size room few rest e p =
    let long : length part ≡ listed = ap length p ∙ length-take-le listed line (omega arith) in
    let counted : length (set b (note_place the.listed_count) n) ≡ memory_length = length-set b (note_place the.listed_count) n ∙ size in
    let front : length (take (note_place the.fullest) (set b (note_place the.listed_count) n)) ≡ note_place the.fullest = length-take-le (note_place the.fullest) (set b (note_place the.listed_count) n) (omega arith) in
    record {
      size = simp (length-append, length-drop) (omega arith);
      count =
          get_or_append_left (take (note_place the.fullest) (set b (note_place the.listed_count) n)) _ 0 (note_place the.listed_count) (omega arith)
          ∙ get_or-take (note_place the.fullest) (set b (note_place the.listed_count) n) (note_place the.listed_count) 0 (omega arith)
          ∙ get_or-set_same b (note_place the.listed_count) n 0 (omega arith)
          ∙ sym (ap length (sym e) ∙ length-take-le n line (omega arith));
      places = λ k l.
          placed (take (note_place the.fullest) (set b (note_place the.listed_count) n)) _ k front
          ∙ get_or_append_left part _ 0 k (omega arith)
          ∙ ap (λ (xs : List ℕ). get_or xs k 0) p
          ∙ get_or-take listed line k 0 l
          ∙ go k l (ltb k n) refl;
      before = take-put_mid_below (note_place the.fullest) listed (set b (note_place the.listed_count) n) part (note_place the.listed_count) (omega arith) (omega arith) ∙ take-set-le (note_place the.listed_count) b (note_place the.listed_count) n (omega arith);
    }
  where
    placed : (front behind : List ℕ) (k : ℕ) → length front ≡ note_place the.fullest → get_or (front ++ behind) (note_place the.fullest + k) 0 ≡ get_or behind k 0
    placed front behind k e = rw (← e) (get_or-append-add front behind k 0)

    go : (k : ℕ) → k < listed → (t : Bool) → ltb k n ≡ t → get_or line k 0 ≡ get_or is k 0
    go k l true q = sym (get_or-take n line k 0 (ltb-true k n q)) ∙ ap (λ (xs : List ℕ). get_or xs k 0) e
    go k l false q =
        rest k (ltb-false k n q) l
        ∙ sym (get_or-eq_default is 0 (omega (arith, ltb-false k n q, ap length e, length-take-le n line (omega arith))))

-- ---- the bytes of one slot written

module _ (f : ℕ → ℕ) (b b₁ : List ℕ) (s v : ℕ) (N : NotedBy f b) (fits : Bytes b₁) (slot : s < slots) (small : v < 65536)
    (changed : b₁ ≡ put (upward (note_place the.bytes + s) slots) 2 b v) {n : ℕ} (counts : n ≡ listed_at b₁) where
  size-now : length b₁ ≡ memory_length
  size-now = ap length changed ∙ length-put (upward (note_place the.bytes + s) slots) 2 b v ∙ N.size

  off : (i : ℕ) → ((j : ℕ) → j < 2 → i ≡ upward (note_place the.bytes + s) slots j → ⊥) → get_or b₁ i 0 ≡ get_or b i 0
  off i h = rw changed (get_d_put-off (upward (note_place the.bytes + s) slots) 2 b v i h)

  bytes-now : (j : ℕ) → j < slots → bytes_at b₁ j ≡ now_in f s v j
  unfolding bytes_at
  bytes-now j l =
      if_eq j s
      (λ e.
      rw (e, eq-eqb s s refl, changed)
      (num-put-back (upward (note_place the.bytes + s) slots) 2 b v (upward-apart (note_place the.bytes + s) slots 2 (omega arith)) (λ k m. omega (arith, N.size)) small))
      (λ d.
      rw (ne_eqb j s d, changed)
      (num-put-off (upward (note_place the.bytes + j) slots) 2 (upward (note_place the.bytes + s) slots) 2 b v (λ x y p q e. absurd (omega arith))
      ∙ bytes_read f (λ i m. N.small i) b N.notes j l))

  -- the list stands as it did

  count_same : listed_at b₁ ≡ listed_at b
  count_same = off (note_place the.listed_count) (λ j l e. absurd (omega arith))

  list_same : slots_from b₁ 0 (listed_at b₁) ≡ fullest_by f
  list_same =
      slots-listed b₁
      ∙ ap (λ (n : ℕ). tab n (slot_at b₁)) count_same
      ∙ tab-same (listed_at b) (slot_at b₁) (slot_at b) (λ k l. off (note_place the.fullest + k) (λ j m e. absurd (omega arith)))
      ∙ list_read f (λ i m. N.small i) b N.notes

  pub few-now : n ≤ listed
  few-now = omega (arith, counts, count_same, listed-read f (λ i m. N.small i) b N.notes, fullest-few f)

  base_same : base b₁ ≡ base b
  unfolding put
  base_same =
      rw changed
      (take-set-le base_length (set b (upward (note_place the.bytes + s) slots 0) (byte 0 v)) (upward (note_place the.bytes + s) slots 1) (byte 1 v) (omega arith)
      ∙ take-set-le base_length b (upward (note_place the.bytes + s) slots 0) (byte 0 v) (omega arith))

  -- and moving one entry makes it right: the bytes before are those now with slot s as it was

  abbrev then_in : ℕ → ℕ
  then_in = now_in (bytes_at b₁) s (f s)

  either : (h : ℕ → ℕ) (w : ℕ) → ((i : ℕ) → h i < 65536) → w < 65536 → (i : ℕ) → now_in h s w i < 65536
  either h w a c i = go (eqb i s)
    where
      go : (t : Bool) → cond t w (h i) < 65536
      go true = c
      go false = a i

  then_same : fullest_by f ≡ fullest_by then_in
  then_same =
      fullest-same f then_in
      (λ j l.
      if_eq j s
      (λ e. rw (e, eq-eqb s s refl) refl)
      (λ d.
      let was : bytes_at b₁ j ≡ f j = bytes-now j l ∙ rw (ne_eqb j s d) refl in
      rw (ne_eqb j s d) (sym was)))

  then-others : (i : ℕ) → (i ≡ s → ⊥) → bytes_at b₁ i ≡ then_in i
  then-others i d = rw (ne_eqb i s d) refl

  now-small : (i : ℕ) → bytes_at b₁ i < 65536
  now-small i = bytes_fit b₁ i fits

  pub movable-now : Movable (bytes_at b₁) s (slots_from b₁ 0 n)
  movable-now =
      rw (counts, list_same, then_same)
      (movable then_in (bytes_at b₁) s (either (bytes_at b₁) (f s) now-small (N.small s)) now-small slot then-others)

  moved-now : moved (bytes_at b₁) s (slots_from b₁ 0 n) ≡ fullest_by (now_in f s v)
  moved-now =
      rw (counts, list_same, then_same)
      (moved-law then_in (bytes_at b₁) s (either (bytes_at b₁) (f s) now-small (N.small s)) now-small slot then-others
      ∙ fullest-same (bytes_at b₁) (now_in f s v) bytes-now)

  -- ---- the list stored

  module _ (b₂ is : List ℕ) (L : Lists is b₁ b₂) (fits₂ : Bytes b₂) (list : is ≡ moved (bytes_at b₁) s (slots_from b₁ 0 n)) where
    before-read : (p : ℕ) → p < note_place the.listed_count → get_or b₂ p 0 ≡ get_or b₁ p 0
    before-read p l =
        sym (get_or-take (note_place the.listed_count) b₂ p 0 l) ∙ ap (λ (x : List ℕ). get_or x p 0) L.before ∙ get_or-take (note_place the.listed_count) b₁ p 0 l

    lanes : (j : ℕ) → j < slots → bytes_at b₂ j ≡ now_in f s v j
    lanes j l =
        omega (arith, read-two b₂ j, read-two b₁ j, before-read (note_place the.bytes + j) (omega arith), before-read (note_place the.bytes + slots + j) (omega arith)) ∙ bytes-now j l

    pub noted-now : NotedBy (now_in f s v) b₂
    noted-now =
        let listed-is : is ≡ fullest_by (now_in f s v) = list ∙ moved-now in
        record {
          size = L.size ∙ size-now;
          small = either f v N.small small;
          notes =
              notes-only (now_in f s v) (λ i m. either f v N.small small i) b₂ fits₂ (L.size ∙ size-now) lanes (L.count ∙ ap length listed-is)
              (λ k l. L.places k l ∙ ap (λ (x : List ℕ). get_or x k 0) listed-is);
        }

    pub base_kept : base b₂ ≡ base b
    base_kept =
        sym (take-take base_length (note_place the.listed_count) b₂ (omega arith)) ∙ ap base L.before ∙ take-take base_length (note_place the.listed_count) b₁ (omega arith) ∙ base_same
