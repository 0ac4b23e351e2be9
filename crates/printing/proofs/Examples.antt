-- Worked values of the printed form.
use Rattle.std.proofs.Common.{◌≡◌, ℕ, pos, List, [], ◌∷◌, codes, refl}
use Rattle.std.specs.Fmt.{digits}
use Rattle.alphabet.specs.EventSets.{members_below}
use Rattle.alphabet.specs.Channels.{number, Values, Channel, names}
use Rattle.term.specs.Proc.{Proc, stop, skip, prefix, ext, int, hide, ren, name}
use Rattle.term.specs.Specs.{Specified}
use Rattle.term.specs.declared.names.Names.TheVariants.{Steps}
use Rattle.printing.specs.Names.{first_from, with_names}
use Rattle.printing.specs.Printed.{printed, process_text, set_text, shared_text}

abbrev channel : List ℕ → List Values → Channel
channel n fields = record { name = n; fields = fields }

abbrev plain : List ℕ → Channel
plain n = channel n []

abbrev abc : List Channel
abc = plain (codes "a") ∷ plain (codes "b") ∷ plain (codes "c") ∷ []

abbrev two : Values
two = number (pos 0) ∷ number (pos 1) ∷ []

abbrev spec : List Channel → List Proc → Specified
spec cs Ps = record { alphabet = cs; bodies = Ps; names = Steps }

pub renamed : printed (spec (channel (codes "c") (two ∷ []) ∷ channel (codes "d") (two ∷ []) ∷ []) (ren ((0, 2) ∷ (1, 3) ∷ []) (ext (prefix 0 stop) (prefix 1 stop)) ∷ [])) ≡ codes "channel c : {0, 1}\nchannel d : {0, 1}\nP0 = (((c.0 -> STOP) [] (c.1 -> STOP)) [[c.0 <- d.0, c.1 <- d.1]])\n"
unfolding process_text set_text shared_text names with_names digits first_from
renamed = refl

pub hidden : printed (spec abc (hide 10 (int (prefix 0 stop) skip) ∷ [])) ≡ codes "channel a\nchannel b\nchannel c\nP0 = (((a -> STOP) |~| SKIP) \\ {a, c})\n"
unfolding process_text set_text shared_text names with_names digits first_from members_below
hidden = refl
