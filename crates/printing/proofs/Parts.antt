-- The whole text from its parts.
use Rattle.std.proofs.Common.{◌≡◌, ℕ, List, [], ◌++◌, length, ap, ap₂, ◌∙◌}
use Rattle.std.specs.List.{flat_map}
use Rattle.alphabet.specs.Channels.{Channel}
use Rattle.term.specs.Specs.{Specified}
use Rattle.printing.specs.Names.{constants, datatype_primes, body_primes}
use Rattle.printing.specs.Printed.{printed, datatype_line, channel_line, body_lines}

pub parts_put : (s : Specified) (cs : List Channel) (n dp bp : ℕ) (t0 t1 t2 t3 : List ℕ) → cs ≡ s.alphabet → n ≡ length s.bodies → dp ≡ datatype_primes cs → bp ≡ body_primes cs n →
    t0 ≡ [] → t1 ≡ t0 ++ datatype_line dp (constants cs) → t2 ≡ t1 ++ flat_map channel_line cs → t3 ≡ t2 ++ body_lines s.alphabet bp s.bodies → t3 ≡ printed s
parts_put s cs n dp bp t0 t1 t2 t3 c m d b e0 e1 e2 e3 =
    let p1 : t1 ≡ datatype_line (datatype_primes s.alphabet) (constants s.alphabet) = e1 ∙ ap (λ v. v ++ datatype_line dp (constants cs)) e0 ∙ ap₂ datatype_line (d ∙ ap datatype_primes c) (ap constants c) in
    let p2 : t2 ≡ datatype_line (datatype_primes s.alphabet) (constants s.alphabet) ++ flat_map channel_line s.alphabet = e2 ∙ ap₂ (λ v ds. v ++ flat_map channel_line ds) p1 c in
    e3 ∙ ap₂ (λ v p. v ++ body_lines s.alphabet p s.bodies) p2 (b ∙ ap₂ body_primes c m)
