-- A memory is its base and the notes behind it. The state is read off the base alone, so the whole stands for the state that its base stands for.
use Prim.Native.Nat.{ℕ, zero, suc, ◌+◌, ◌*◌, ◌≤◌, ◌<◌}
use mathlib.Core.Path.{◌≡◌, refl, sym, ap, ◌∙◌}
use mathlib.Core.List.{List, ◌++◌}
use native.Mathlib.Omega.{arith}
use native.Mathlib.Nat.{mul-le-mul_left}
use lib.ListN.{length, get_or, length-append, take-append-drop, get_or-append}
use lib.Seq.{length-take-le, take-append_seam, drop-append_seam}
use Rattle.lists.specs.Tabs.{tab}
use Rattle.lists.proofs.SlotsLaws.{if_eq}
use Rattle.lists.proofs.TabLaws.{tab-same}
use Rattle.octets.specs.Number.{upward}
use Rattle.octets.proofs.NumberLaws.{num-same}
use Rattle.rules.specs.Numbers.{slots, cells}
use Rattle.rules.specs.State.{State}
use Rattle.rules.specs.Fullest.{bytes_in}
use Rattle.rules.specs.Facts.{Sound}
use Rattle.rules.proofs.Filling.{bytes_most}
use Rattle.memory.specs.Names as the
use Rattle.memory.specs.Names.{Name}
use Rattle.memory.specs.Layout.{run_of, place, lanes, width, bytes_of, notes_of, memory_of, base_length, memory_length}
use Rattle.memory.specs.Reading.{number_in, byte_in, waiting_at, first_at, record_at, channel_at, row_count_at, rows_at, state_of}
use Rattle.memory.specs.Memory.{base, noted}
use Rattle.memory.specs.Fits.{Fits}
use Rattle.memory.proofs.RunLaws.{before, before-all}
use Rattle.memory.proofs.Fitting.{length-bytes, rows_few, run-few}
use Rattle.memory.proofs.SoundFits.{sound-fits}
use Rattle.memory.proofs.Lanes.{row-count-is}
use Rattle.memory.proofs.RoundTrip.{first-is, state_of-bytes}
use Rattle.memory.proofs.NoteLaws.{length-notes}

-- ---- what is read off the base

module _ (b : List ℕ) (long : base_length ≤ length b) where
  pub length-base : length (base b) ≡ base_length
  length-base = length-take-le base_length b long

  pub get_d_base : (i : ℕ) → i < base_length → get_or (base b) i 0 ≡ get_or b i 0
  get_d_base i l =
      sym (get_or-append (base b) (noted b) 0 i (rw length-base l)) ∙ ap (λ (x : List ℕ). get_or x i 0) (take-append-drop base_length b)

  -- lane i of a field of more bytes, and of one byte
  pub number-base : (n : Name) (i : ℕ) → place n + lanes n * width n ≤ base_length → i < lanes n → number_in n (base b) i ≡ number_in n b i
  number-base n i h l =
      num-same (upward (place n + i) (lanes n)) (upward (place n + i) (lanes n)) (width n) (base b) b
      (λ j m.
      let k : lanes n * suc j ≤ lanes n * width n = mul-le-mul_left (lanes n) m in
      get_d_base (place n + i + lanes n * j) (omega arith))

  pub waiting-base : (i : ℕ) → i < slots → waiting_at (base b) i ≡ waiting_at b i
  waiting-base i l = get_d_base (place the.waiting + i) (omega arith)

  pub first-base : (i : ℕ) → i ≤ slots → first_at (base b) i ≡ first_at b i
  unfolding first_at
  first-base zero h = refl
  first-base (suc i) h = omega (arith, first-base i (omega arith), waiting-base i (omega arith))

  pub record-base : (p : ℕ) → p < cells → record_at (base b) p ≡ record_at b p
  unfolding record_at
  record-base p h = rw (number-base the.length p (omega arith) h, number-base the.reference p (omega arith) h) refl

  -- ---- the state

  module _ (run : first_at b slots ≤ cells) (few : row_count_at b ≤ slots) where
    first_grows : (i j : ℕ) → i ≤ j → first_at b i ≤ first_at b j
    unfolding first_at
    first_grows i zero h = let e : i ≡ 0 = omega arith in rw e (omega arith)
    first_grows i (suc j) h = if_eq i (suc j) (λ e. rw e (omega arith)) (λ n. omega (arith, first_grows i j (omega arith)))

    first_next : (i : ℕ) → first_at b (suc i) ≡ first_at b i + waiting_at b i
    unfolding first_at
    first_next i = refl

    records-base : (i : ℕ) → i < slots
        → tab (waiting_at (base b) i) (λ n. record_at (base b) (first_at (base b) i + n)) ≡ tab (waiting_at b i) (λ n. record_at b (first_at b i + n))
    records-base i l =
        rw (waiting-base i l, first-base i (omega arith))
        (tab-same (waiting_at b i) (λ n. record_at (base b) (first_at b i + n)) (λ n. record_at b (first_at b i + n))
        (λ n m.
        let within : first_at b (suc i) ≤ first_at b slots = first_grows (suc i) slots l in
        record-base (first_at b i + n) (omega (arith, first_next i, within))))

    channel-base : (i : ℕ) → i < slots → channel_at (base b) i ≡ channel_at b i
    unfolding channel_at
    channel-base i l =
        rw (
          get_d_base (place the.kind + i) (omega arith),
          number-base the.ticket i (omega arith) l,
          number-base the.weight i (omega arith) l,
          number-base the.deficit i (omega arith) l,
          number-base the.serial i (omega arith) l,
          records-base i l,
        )
        refl

    rows-base : rows_at (base b) ≡ rows_at b
    rows-base =
        rw (get_d_base (place the.row_count + 0) (omega arith))
        (tab-same (row_count_at b) (byte_in the.rows (base b)) (byte_in the.rows b) (λ i l. get_d_base (place the.rows + i) (omega arith)))

    pub stands_same : state_of (base b) ≡ state_of b
    unfolding state_of
    stands_same =
        rw (
          get_d_base (place the.edition + 0) (omega arith),
          tab-same slots (channel_at (base b)) (channel_at b) channel-base,
          rows-base,
          get_d_base (place the.order + 0) (omega arith),
          number-base the.position 0 (omega arith) (omega arith),
          get_d_base (place the.column + 0) (omega arith),
          number-base the.mask 0 (omega arith) (omega arith),
          get_d_base (place the.visit + 0) (omega arith),
          get_d_base (place the.parked + 0) (omega arith),
        )
        refl

-- ---- a state's base with anything behind it

module _ {s : State} (F : Fits s) (n : List ℕ) where
  pub base_of : base (bytes_of s ++ n) ≡ bytes_of s
  base_of = rw (← length-bytes F) (take-append_seam (bytes_of s) n)

  pub noted_of : noted (bytes_of s ++ n) ≡ n
  noted_of = rw (← length-bytes F) (drop-append_seam (bytes_of s) n)

  long-enough : base_length ≤ length (bytes_of s ++ n)
  long-enough = omega (arith, length-append (bytes_of s) n, length-bytes F)

  pub state_of-base : state_of (bytes_of s ++ n) ≡ s
  state_of-base =
      let b = bytes_of s ++ n in
      let total : first_at (bytes_of s) slots ≡ length (run_of s.channels)
      = first-is F slots (omega arith) ∙ ap (before s.channels) (sym F.size) ∙ before-all s.channels in
      let run : first_at b slots ≤ cells = rw (← first-base b long-enough slots (omega arith), base_of, total) (run-few F) in
      let rows : row_count_at b ≤ slots = rw (← get_d_base b long-enough (place the.row_count + 0) (omega arith), base_of) (omega (arith, row-count-is F, rows_few F)) in
      sym (stands_same b long-enough run rows) ∙ ap state_of base_of ∙ state_of-bytes F

-- ---- a sound state's memory

module _ {s : State} (S : Sound s) where
  pub bytes_small : (i : ℕ) → i < slots → bytes_in s.channels i < 65536
  bytes_small i l = omega (arith, bytes_most S i)

  pub length-memory : length (memory_of s) ≡ memory_length
  unfolding memory_of
  length-memory =
      omega (arith, length-append (bytes_of s) (notes_of s), length-bytes (sound-fits S), length-notes (bytes_in s.channels) bytes_small)

  pub memory-base : base (memory_of s) ≡ bytes_of s
  unfolding memory_of
  memory-base = base_of (sound-fits S) (notes_of s)

  pub memory-noted : noted (memory_of s) ≡ notes_of s
  unfolding memory_of
  memory-noted = noted_of (sound-fits S) (notes_of s)

  pub sound-state : state_of (memory_of s) ≡ s
  unfolding memory_of
  sound-state = state_of-base (sound-fits S) (notes_of s)
