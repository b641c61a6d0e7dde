-- A slot's entry read into a memory: its numbers are stored, and then its records come behind those of the slots before.
use Rattle.std.proofs.Common.{◌≡◌, ℕ, ◌<◌, ◌≤◌, List, [], ◌∷◌, ◌++◌, length, drop, sym, refl, ap, ◌∙◌, append_assoc, arith, get_or-set_other}
use Rattle.rules.specs.Numbers.{slots}
use Rattle.rules.specs.State.{Record, Channel, State, blank, at, with_channel}
use Rattle.memory.specs.Layout.{bytes_of}
use Rattle.memory.specs.Reading.{first_at}
use Rattle.memory.specs.Edits.{queue_now, with_waiting}
use Rattle.memory.specs.Fits.{each_nil, SlotFits, Fits}
use Rattle.memory.specs.Head.{head_of}
use Rattle.memory.proofs.Fitting.{kind-most, fits-channel, fewer}
use Rattle.memory.proofs.RunLaws.{before-set}
use Rattle.image.specs.Parts.{as_number, part, widths, numbers_of, laid, span, numbers_in}
use Rattle.image.specs.Image.{length_width, entry_length, records_bytes, slot_parts, entry}
use Rattle.reader.specs.Decoding.{Reached, NoneBehind}
use Rattle.image.proofs.RoundTrip.{wide-holds}
use Rattle.reader.proofs.RecordsDecode.{numbers-behind, parts-passed, channel-fits, within, queued_channel, place_read}
use Rattle.reader.proofs.RunEnd.{run_ends, none_from}

-- ---- a slot's entry

module _ (left m : List ℕ) (s : State) (slot v : ℕ) (here : slot < slots) (h : 1 ≤ v) (c : Channel) (rest : List ℕ) (F : Fits (with_channel s slot c))
    (idle : (at s.channels slot).waiting ≡ []) (behind : NoneBehind s slot) (R : Reached left (entry v c ++ rest) m s) where
  ahead : left ≡ laid (slot_parts v c) ++ (records_bytes c.waiting ++ rest)
  unfolding entry
  ahead = R.ahead ∙ append_assoc (laid (slot_parts v c)) (records_bytes c.waiting) rest

  pub C : SlotFits c
  C = channel-fits s slot c here F

  inside : slot < length s.channels
  inside = within s slot c here F

  empty-fits : SlotFits (with_waiting [] c)
  empty-fits =
      record {
        ticket-fits = C.ticket-fits;
        weight-fits = C.weight-fits;
        deficit-fits = C.deficit-fits;
        serial-fits = C.serial-fits;
        few = omega arith;
        records = each_nil;
      }

  -- the number of the entry's length, which may be in no bytes, and the others
  pub slot-taken : numbers_in (widths (slot_parts v c)) left ≡ as_number (length_width v) left ∷ numbers_of (drop 1 (slot_parts v c))
  slot-taken =
      rw ahead
      (numbers-behind (part (length_width v) (entry_length v c)) (drop 1 (slot_parts v c)) (records_bytes c.waiting ++ rest)
      (omega (arith, kind-most c.kind), (C.ticket-fits, (wide-holds v h c.weight C.weight-fits, (C.deficit-fits, (C.serial-fits, (omega (arith, C.few), tt)))))))

  pub slot_read : (place : ℕ) → place ≡ first_at m slots → (count : ℕ) (next mid behind-it after : List ℕ) → next ≡ drop (span (widths (slot_parts v c))) left
      → ((t : State) (d : Channel) → Fits t → m ≡ bytes_of t → head_of c ≡ head_of d → d.waiting ≡ (at t.channels slot).waiting → mid ≡ bytes_of (with_channel t slot d))
      → count ≡ length c.waiting
      → ((t : State) (xs : List Record) (more : List ℕ) → Fits (queue_now t slot xs) → length xs ≡ count → NoneBehind t slot → place ≡ first_at mid slots
      → Reached next (records_bytes xs ++ more) mid (queue_now t slot []) → Reached behind-it more after (queue_now t slot xs))
      → Reached behind-it rest after (with_channel s slot c)
  slot_read place ends count next mid behind-it after passed stored count-is records =
      let head : mid ≡ bytes_of (with_channel s slot (with_waiting [] c)) = stored s (with_waiting [] c) R.fits R.memory refl (sym idle) in
      let reached : Reached next (records_bytes c.waiting ++ rest) mid (queue_now (with_channel s slot c) slot [])
      = record {
        ahead = passed ∙ ap (drop (span (widths (slot_parts v c)))) ahead ∙ parts-passed (slot_parts v c) (records_bytes c.waiting ++ rest);
        memory = head ∙ ap bytes_of (sym (queued_channel s slot c [] inside));
        fits = rw (queued_channel s slot c [] inside) (fits-channel R.fits slot (with_waiting [] c) here empty-fits (fewer R.fits slot (with_waiting [] c) here (omega arith)));
      } in
      let later : NoneBehind (with_channel s slot c) slot
      = λ j l. ap (λ (d : Channel). d.waiting) (get_or-set_other s.channels slot j c blank (λ e. omega arith)) ∙ behind j l in
      let whole : queue_now (with_channel s slot c) slot c.waiting ≡ with_channel s slot c = queued_channel s slot c c.waiting inside in
      let same : first_at mid slots ≡ first_at m slots
      = place_read (with_channel s slot c) slot mid here later reached.fits reached.memory ∙ before-set s.channels slot c
      ∙ sym (run_ends slot (none_from s slot idle behind) R.fits R.memory) in
      rw whole at (records (with_channel s slot c) c.waiting rest (rw whole F) (sym count-is) later (ends ∙ sym same) reached)
