use Rattle.std.proofs.Common.{◌≡◌, ◌++◌, take}
use Rattle.std.specs.List.{flat_map}
use Rattle.shown.specs.Names.{set_text}
use Rattle.shown.proofs.lines.put_sets.Given as goal

abbrev pub invariant-loop-set : goal.invariant-loop-set
invariant-loop-set g l = l.text.items ≡ l.fn.text.items ++ flat_map (λ X. l.mark ++ set_text l.format l.alphabet X) (take l.set-index l.sets)
