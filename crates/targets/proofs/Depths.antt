-- What steps keep of a process's depth.
use Rattle.std.proofs.Common.{ℕ, ◌≤◌, arith}
use Rattle.term.specs.Proc.{Proc, stop, skip, prefix, ext, int, seq, par, hide, ren, intr, name}
use Rattle.term.specs.Steps.{Act, a-prefix, a-ext-l, a-ext-r, a-seq, a-par-l, a-par-r, a-par-b, a-hide, a-ren, a-intr-l, a-intr-r}
use Rattle.term.specs.Sizes.{depth}

-- an event leads to no greater depth
pub act-depth : {P Q : Proc} {a : ℕ} → Act P a Q → depth Q ≤ depth P
act-depth a-prefix = omega arith
act-depth (a-ext-l d) = let k = act-depth d in omega arith
act-depth (a-ext-r d) = let k = act-depth d in omega arith
act-depth (a-seq d) = let k = act-depth d in omega arith
act-depth (a-par-l n d) = let k = act-depth d in omega arith
act-depth (a-par-r n d) = let k = act-depth d in omega arith
act-depth (a-par-b y d e) = let k = act-depth d in let l = act-depth e in omega arith
act-depth (a-hide n d) = let k = act-depth d in omega arith
act-depth (a-ren i d) = let k = act-depth d in omega arith
act-depth (a-intr-l d) = let k = act-depth d in omega arith
act-depth (a-intr-r d) = let k = act-depth d in omega arith

pub depth-positive : (P : Proc) → 1 ≤ depth P
depth-positive stop = omega arith
depth-positive skip = omega arith
depth-positive (prefix a P) = omega arith
depth-positive (ext P Q) = omega arith
depth-positive (int P Q) = omega arith
depth-positive (seq P Q) = omega arith
depth-positive (par A P Q) = omega arith
depth-positive (hide A P) = omega arith
depth-positive (ren R P) = omega arith
depth-positive (intr P Q) = omega arith
depth-positive (name k) = omega arith
