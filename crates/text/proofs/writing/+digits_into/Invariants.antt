use Rattle.text.proofs.writing.+digits_into.Given as goal

-- proposed from what the function passes where it calls itself
abbrev pub decreases-digits_into : goal.decreases-digits_into
decreases-digits_into l = l.n
