-- What a turn of taking a slot out, and of putting one in, does to the line; and the whole, from what its parts give.
use Prim.Native.Nat.{ℕ, zero, suc, ◌+◌, ◌-◌, ◌%◌, ◌≤◌, ◌<◌}
use mathlib.Core.Path.{◌≡◌, refl, sym, ap, ◌∙◌}
use mathlib.Core.Bool.{Bool, true, false, cond, not}
use mathlib.Core.List.{List, [], ◌∷◌, ◌++◌, append_assoc, append-nil}
use native.Mathlib.Nat.{add-zero, zero-add}
use native.Mathlib.Numerals.{add-one}
use native.Mathlib.Omega.{arith}
use lib.Dec.{ltb, eqb}
use lib.ListN.{length, get_or, take, drop, set, drop_of_length-le, length-take, length-append}
use lib.Seq.{get_or-set_other, take-suc-set, length-take-le, get_or-take, drop-cons, take_all, take-append-le}
use borrow.Author.Tests.{eq-eqb, ne_eqb, ltb-true, ltb-false, lt-ltb, le-ltb}
use Rattle.lists.specs.Slots.{keep_if}
use Rattle.lists.proofs.SlotsLaws.{keep_append}
use Rattle.fullest.specs.Listing.{slot_at, slots_from}
use Rattle.fullest.specs.Keys.{key}
use Rattle.fullest.specs.Moved.{without, least_of, put_in, next_below, slot_of_key, moved, FallingLine, Movable}

-- ---- taken out

slots_snoc : (b : List ℕ) (j n : ℕ) → slots_from b j (suc n) ≡ slots_from b j n ++ (slot_at b (j + n) ∷ [])
slots_snoc b j zero = rw (add-zero j) refl
slots_snoc b j (suc n) =
    let next : j + 1 + n ≡ j + suc n = omega arith in
    ap (λ (xs : List ℕ). slot_at b j ∷ xs) (slots_snoc b (j + 1) n ∙ rw next refl)

module _ (b line : List ℕ) (s k t : ℕ) (few : length line ≤ k) (so-far : line ≡ without s (slots_from b 0 k)) (here : t ≡ slot_at b k) where
  one-more : without s (slots_from b 0 (k + 1)) ≡ line ++ keep_if (not (eqb t s)) t []
  one-more =
      ap (λ (n : ℕ). without s (slots_from b 0 n)) (add-one k)
      ∙ ap (without s) (slots_snoc b 0 k ∙ ap (λ (i : ℕ). slots_from b 0 k ++ (i ∷ [])) (ap (slot_at b) (zero-add k) ∙ sym here))
      ∙ keep_append (λ i. not (eqb i s)) (slots_from b 0 k) (t ∷ [])
      ∙ ap (λ (xs : List ℕ). xs ++ keep_if (not (eqb t s)) t []) (sym so-far)

  pub out-kept : (now : List ℕ) → (t ≡ s → ⊥) → now ≡ line ++ t ∷ [] → (length now ≤ k + 1) × (now ≡ without s (slots_from b 0 (k + 1)))
  out-kept now d e = (rw (e, length-append) (omega arith), e ∙ sym (rw (ne_eqb t s d) at one-more))

  pub out-left : (now : List ℕ) → t ≡ s → now ≡ line → (length now ≤ k + 1) × (now ≡ without s (slots_from b 0 (k + 1)))
  out-left now d e = (rw e (omega arith), e ∙ sym (rw (eq-eqb t s d) at one-more ∙ append-nil line))

-- the slots listed are as many as they are said to be
pub slots_length : (b : List ℕ) (j n : ℕ) → length (slots_from b j n) ≡ n
slots_length b j zero = refl
slots_length b j (suc n) = ap suc (slots_length b (j + 1) n)

-- ---- put in

tail-cons : (line : List ℕ) (r k : ℕ) → length line ≡ 6 → r ≤ 5 → k < r → drop k (take r line) ≡ get_or line k 0 ∷ drop (k + 1) (take r line)
tail-cons line r k len few l =
    let long : length (take r line) ≡ r = length-take-le r line (omega arith) in
    drop-cons (take r line) k 0 (omega arith)
    ∙ ap (λ (i : ℕ). i ∷ drop (suc k) (take r line)) (get_or-take r line k 0 l)
    ∙ ap (λ (n : ℕ). get_or line k 0 ∷ drop n (take r line)) (sym (add-one k))

tail_none : (line : List ℕ) (r k : ℕ) → length line ≡ 6 → r ≤ 5 → r ≤ k → drop k (take r line) ≡ []
tail_none line r k len few l =
    let short : length (take r line) ≤ k = omega (arith, length-take-le r line (omega arith)) in
    drop_of_length-le (take r line) short

module _ (f : ℕ → ℕ) (line : List ℕ) (r : ℕ) (len : length line ≡ 6) (few : r ≤ 5) (falling : FallingLine f r line) where
  -- a slot that is ahead of all that are left
  put-head : (k : ℕ) → k < r → put_in (key f) (get_or line k 0) (drop (k + 1) (take r line)) ≡ get_or line k 0 ∷ drop (k + 1) (take r line)
  unfolding put_in
  put-head k l = go (ltb (k + 1) r) refl
    where
      go : (b : Bool) → ltb (k + 1) r ≡ b
          → put_in (key f) (get_or line k 0) (drop (k + 1) (take r line)) ≡ get_or line k 0 ∷ drop (k + 1) (take r line)
      go true e =
          let more : k + 1 < r = ltb-true (k + 1) r e in
          rw (tail-cons line r (k + 1) len few more, lt-ltb (key f (get_or line (k + 1) 0)) (key f (get_or line k 0)) (falling.falls k more)) refl
      go false e = rw (tail_none line r (k + 1) len few (ltb-false (k + 1) r e)) refl

  pub in_turn : (w now : List ℕ) (k held : ℕ) (p : ℕ × ℕ) → length now ≡ 6 → k < r → get_or now k 0 ≡ get_or line k 0
      → w ≡ take k now ++ put_in (key f) held (drop k (take r line))
      → p ≡ cond (ltb (key f (get_or now k 0)) (key f held)) (held, get_or now k 0) (get_or now k 0, held)
      → w ≡ take (k + 1) (set now k p.0) ++ put_in (key f) p.1 (drop (k + 1) (take r line))
  unfolding put_in
  in_turn w now k held p size l e h q =
      h
      ∙ ap (λ (xs : List ℕ). take k now ++ put_in (key f) held xs) (tail-cons line r k len few l ∙ ap (λ (i : ℕ). i ∷ drop (k + 1) (take r line)) (sym e))
      ∙ go (ltb (key f (get_or now k 0)) (key f held)) q
      ∙ sym (append_assoc (take k now) (p.0 ∷ []) (put_in (key f) p.1 (drop (k + 1) (take r line))))
      ∙ ap (λ (xs : List ℕ). xs ++ put_in (key f) p.1 (drop (k + 1) (take r line))) (sym kept)
    where
      kept : take (k + 1) (set now k p.0) ≡ take k now ++ (p.0 ∷ [])
      kept = ap (λ (n : ℕ). take n (set now k p.0)) (add-one k) ∙ take-suc-set now k p.0 (omega arith)

      go : (b : Bool) → p ≡ cond b (held, get_or now k 0) (get_or now k 0, held)
          → take k now ++ cond b (held ∷ get_or now k 0 ∷ drop (k + 1) (take r line)) (get_or now k 0 ∷ put_in (key f) held (drop (k + 1) (take r line)))
          ≡ take k now ++ (p.0 ∷ put_in (key f) p.1 (drop (k + 1) (take r line)))
      go true a = rw (a, e) (ap (λ (xs : List ℕ). take k now ++ (held ∷ xs)) (sym (put-head k l)))
      go false a = rw a refl

  pub in_end : (w now : List ℕ) (k held : ℕ) → r ≤ k → k ≤ r → w ≡ take k now ++ put_in (key f) held (drop k (take r line)) → take r now ++ held ∷ [] ≡ w
  unfolding put_in
  in_end w now k held m l h =
      let e : k ≡ r = omega arith in
      sym (h ∙ rw e (ap (λ (xs : List ℕ). take r now ++ put_in (key f) held xs) (tail_none line r r len few (omega arith))))

-- the one held is a slot, as both are
pub held_lt : (b : Bool) (x y m : ℕ) (p : ℕ × ℕ) → p ≡ cond b (y, x) (x, y) → x < m → y < m → p.1 < m
held_lt true x y m p e h k = rw e h
held_lt false x y m p e h k = rw e k

-- what stands behind the place that was set is as it was
pub unread : (line now : List ℕ) (k v : ℕ) → ((j : ℕ) → k ≤ j → get_or now j 0 ≡ get_or line j 0) → (j : ℕ) → k + 1 ≤ j → get_or (set now k v) j 0 ≡ get_or line j 0
unread line now k v h j l = get_or-set_other now k j v 0 (λ e. omega arith) ∙ h j (omega arith)

-- ---- the whole

-- a line whose first ones are a list with falling keys
pub line-falls : (f : ℕ → ℕ) (line is : List ℕ) (r : ℕ) → length line ≡ 6 → r ≤ 5 → take r line ≡ is → FallingLine f (length is) is → FallingLine f r line
line-falls f line is r len few e h =
    let long : length is ≡ r = ap length (sym e) ∙ length-take-le r line (omega arith) in
    let at : (k : ℕ) → k < r → get_or line k 0 ≡ get_or is k 0 = λ k l. sym (get_or-take r line k 0 l) ∙ ap (λ (xs : List ℕ). get_or xs k 0) e in
    record {
      slots = λ k l. let q : get_or is k 0 < 64 = h.slots k (omega arith) in omega (arith, at k l);
      falls = λ k l. rw (at k (omega arith), at (k + 1) l) (h.falls k (omega arith));
    }

-- a list has no more slots than are listed
short : (x : ℕ) → length (slot_of_key x) ≤ 1
short x = go (ltb x 64)
  where
    go : (b : Bool) → length (cond b [] ((63 - x % 64) ∷ [])) ≤ 1
    go true = omega arith
    go false = omega arith

-- out is the list without the slot, x the slot's key, least the last key of out
module _ (f : ℕ → ℕ) (s : ℕ) (is out : List ℕ) (x least : ℕ) (others : out ≡ without s is) (a : x ≡ key f s) (b : least ≡ least_of (key f) out) where
  ahead : least < x → ltb (least_of (key f) (without s is)) (key f s) ≡ true
  ahead l = rw (← others, ← a, ← b) (lt-ltb least x l)

  behind : x ≤ least → ltb (least_of (key f) (without s is)) (key f s) ≡ false
  behind l = rw (← others, ← a, ← b) (le-ltb least x l)

  pub moved_in : (now : List ℕ) → least < x → now ≡ take 5 (put_in (key f) s out) → (length now ≤ 5) × (now ≡ moved f s is)
  unfolding moved
  moved_in now l e = (rw (e, length-take) (omega arith), e ∙ rw (ahead l, others) refl)

  -- fewer than five were listed
  pub next-alone : Movable f s is → length is < 5 → x ≤ least → slot_of_key x ≡ next_below f least
  next-alone h few l =
      let least-is : least ≡ least_of (key f) (without s is) = rw others at b in
      rw (a, least-is) (h.alone few (omega arith))

  pub moved-next : (y : ℕ) (now : List ℕ) → x ≤ least → length out < 5 → slot_of_key y ≡ next_below f least → now ≡ out ++ slot_of_key y → (length now ≤ 5) × (now ≡ moved f s is)
  unfolding moved
  moved-next y now l few q e =
      let least-is : least ≡ least_of (key f) (without s is) = rw others at b in
      let low : length now ≤ 5 = omega (arith, ap length e, length-append out (slot_of_key y), short y) in
      let whole : now ≡ without s is ++ next_below f (least_of (key f) (without s is)) = e ∙ rw (q, others, least-is) refl in
      (low, rw (behind l, ← whole) (sym (take_all 5 now low)))

  -- five others are ahead
  pub moved-full : x ≤ least → length out ≡ 5 → (length out ≤ 5) × (out ≡ moved f s is)
  unfolding moved
  moved-full l five =
      (omega arith, rw (behind l, ← others) (sym (take-append-le 5 out (next_below f (least_of (key f) out)) (omega arith) ∙ take_all 5 out (omega arith))))
