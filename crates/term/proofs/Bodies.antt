-- The bodies of a closed specification.
use Rattle.std.proofs.Common.{◌≡◌, ℕ, ◌<◌, List, length, get_or, map, subst, sym, ◌∙◌, ap}
use Rattle.std.proofs.lemmas.List.{get_or-map, length-map}
use Rattle.std.proofs.lemmas.List.Elements.{All-get_or}
use Rattle.term.specs.declared.terms.Term.{Term}
use Rattle.term.specs.Proc.{proc, stop}
use Rattle.term.specs.Specs.{Specified, IsProcessOf, IsClosed}

-- a body that a reference leads to is one of the specification's processes
pub body-is : {A : Type 0} (s : Specified) (ts : List (Term A)) (k : ℕ) (t : Term A) → IsClosed s → map proc ts ≡ s.bodies → k < length s.bodies → t ≡ get_or ts k t → IsProcessOf s (proc t)
body-is s ts k t c m l e = subst (IsProcessOf s) body (All-get_or (IsProcessOf s) s.bodies k stop l c.1)
  where
    short : k < length ts
    short = subst (λ n. k < n) (length-map ts proc) (subst (λ ps. k < length ps) (sym m) l)

    body : get_or s.bodies k stop ≡ proc t
    body = ap (λ ps. get_or ps k stop) (sym m) ∙ get_or-map proc ts k t stop short ∙ ap proc (sym e)
