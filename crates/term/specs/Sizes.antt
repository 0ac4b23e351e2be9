-- Depth and size of a process.
use Rattle.std.specs.Prelude.{ℕ, suc, ◌+◌, max}
use Rattle.term.specs.Proc.{Proc, stop, skip, prefix, ext, int, seq, par, hide, ren, intr, name}

-- `STOP`, `SKIP` and a name have depth 1, every other process 1 more than its deepest part.
abbrev pub depth : Proc → ℕ
depth stop = 1
depth skip = 1
depth (prefix a P) = suc (depth P)
depth (ext P Q) = suc (max (depth P) (depth Q))
depth (int P Q) = suc (max (depth P) (depth Q))
depth (seq P Q) = suc (max (depth P) (depth Q))
depth (par A P Q) = suc (max (depth P) (depth Q))
depth (hide A P) = suc (depth P)
depth (ren R P) = suc (depth P)
depth (intr P Q) = suc (max (depth P) (depth Q))
depth (name k) = 1

-- The number of nodes: 1 and those of the parts.
abbrev pub size : Proc → ℕ
size stop = 1
size skip = 1
size (prefix a P) = suc (size P)
size (ext P Q) = suc (size P + size Q)
size (int P Q) = suc (size P + size Q)
size (seq P Q) = suc (size P + size Q)
size (par A P Q) = suc (size P + size Q)
size (hide A P) = suc (size P)
size (ren R P) = suc (size P)
size (intr P Q) = suc (size P + size Q)
size (name k) = 1
