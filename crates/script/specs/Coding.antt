-- Two proofs that events, or that fields, are the same are one proof: what the facts that structs keep need.
use Rattle.std.specs.Prelude.{◌≡◌, ℕ, List, Option}
use Rattle.std.specs.Coded.{Coded, Coded-set, code_by, coded_option, coded×, coded_ℕ, coded_list, Π_prop}
use Rattle.std.proofs.Common.{refl}
use Rattle.alphabet.specs.Channels.{FieldValue, Values, Parts}
use Rattle.term.specs.Codes.{value_code}
use Rattle.values.specs.Values.{Name}

parts_code : Coded Parts
parts_code = code_by (List ℕ × List FieldValue) (coded× (coded_list coded_ℕ) (coded_list value_code)) (λ p. (p.channel, p.values)) (λ p. record { channel = p.0; values = p.1 }) (λ _. refl)

pub parts_prop : (ps qs : List Parts) → IsProp (ps ≡ qs)
parts_prop ps qs = Coded-set (coded_list parts_code) ps qs

pub fields_prop : (f g : Name → Option (List Values)) → IsProp ((n : Name) → f n ≡ g n)
fields_prop f g = Π_prop (λ n. Coded-set (coded_option (coded_list (coded_list value_code))) (f n) (g n))
