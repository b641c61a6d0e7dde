-- The bytes there are those that the notes are right for.
use Prim.Native.Nat.{ℕ, ◌+◌}
use mathlib.Core.Path.{◌≡◌, ◌∙◌, subst}
use Rattle.memory.proofs.NoteLaws.{bytes_read}
use Rattle.fullest.specs.Noted.{NotedBy, now_in}
use Rattle.fullest.proofs.noting.grow.Goals as goal

pub returns : goal.returns
returns c =
    let b = c.args.state.now in
    let n = c.note.ensures in (
      λ f N.
          let was : c.bytes_of.result ≡ f c.args.slot
          = c.bytes_of.ensures ∙ bytes_read f (λ i l. N.small i) b N.notes c.args.slot c.requires.1 in
          subst (λ (x : ℕ). NotedBy (now_in f c.args.slot (x + c.args.length)) c.note.new.state) was (n.0 f N),
      n.1,
    )
