-- Texts by what they were said of.
use Rattle.std.specs.Prelude.{ℕ, List, Option, nat_eq}
use Rattle.std.specs.Option.{option_map}
use Rattle.std.specs.Map.{lookup}
use Rattle.std.specs.Cmp.Lexicographic.{pointwise}
use Rattle.alphabet.specs.EventSets.{Set}
use Rattle.shown.specs.declared.remarks.Remarks.{Remarks}

-- the text that is kept of these sets
abbrev pub remark : {A : Type 0} → Remarks A → List Set → Option (List ℕ)
remark r sets = option_map (λ text. text.items) (lookup (λ key. pointwise nat_eq sets key.items) r.texts.entries)
