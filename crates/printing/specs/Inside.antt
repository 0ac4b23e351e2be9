-- A printed process without the brackets round it.
use Rattle.std.specs.Prelude.{ℕ, List, ◌++◌, map, codes, Bool, true, false}
use Rattle.alphabet.specs.declared.events.Event.TheVariants.{Of as ev}
use Rattle.alphabet.specs.Channels.{Channel, name_of}
use Rattle.term.specs.Proc.{Proc, stop, skip, prefix, ext, int, seq, par, hide, ren, intr, name}
use Rattle.printing.specs.Printed.{joined, set_text, shared_text, pair_text, mark, process_text, reference}

-- whether it has brackets of its own
unfoldable pub has_brackets : Proc → Bool
has_brackets stop = false
has_brackets skip = false
has_brackets (name k) = false
has_brackets P = true

-- what stands in them, or all where it has none
unfoldable pub inside : List Channel → ℕ → Proc → List ℕ
inside cs primes (prefix a P) = name_of cs (ev a) ++ codes " -> " ++ process_text cs primes P
inside cs primes (par A P Q) = process_text cs primes P ++ shared_text cs A ++ process_text cs primes Q
inside cs primes (hide A P) = process_text cs primes P ++ codes " \\ " ++ set_text cs A
inside cs primes (ren R P) = process_text cs primes P ++ codes " [[" ++ joined (codes ", ") (map (pair_text cs) R) ++ codes "]]"
inside cs primes (ext P Q) = process_text cs primes P ++ mark (ext P Q) ++ process_text cs primes Q
inside cs primes (int P Q) = process_text cs primes P ++ mark (int P Q) ++ process_text cs primes Q
inside cs primes (seq P Q) = process_text cs primes P ++ mark (seq P Q) ++ process_text cs primes Q
inside cs primes (intr P Q) = process_text cs primes P ++ mark (intr P Q) ++ process_text cs primes Q
inside cs primes stop = codes "STOP"
inside cs primes skip = codes "SKIP"
inside cs primes (name k) = reference primes k
