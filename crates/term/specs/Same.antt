-- Tests whether two processes are the same, part by part, and what a table by hash is fed of a process.
use Rattle.std.specs.Prelude.{ℕ, Bool, true, false, ◌&&◌, List, [], ◌∷◌, ◌++◌, nat_eq}
use Rattle.std.specs.Hash as fed
use Rattle.term.specs.Traces.{Pairs}
use Rattle.term.specs.Proc.{Proc, stop, skip, prefix, ext, int, seq, par, hide, ren, intr, name}

-- Both have the same pairs in the same order.
abbrev pub same_pairs : Pairs → Pairs → Bool
same_pairs [] [] = true
same_pairs [] (q ∷ qs) = false
same_pairs (p ∷ ps) [] = false
same_pairs (p ∷ ps) (q ∷ qs) = (nat_eq p.0 q.0 && nat_eq p.1 q.1) && same_pairs ps qs

-- Both are made alike from the same parts.
abbrev pub same : Proc → Proc → Bool
same stop stop = true
same skip skip = true
same (prefix a P) (prefix b Q) = nat_eq a b && same P Q
same (ext P Q) (ext R S) = same P R && same Q S
same (int P Q) (int R S) = same P R && same Q S
same (seq P Q) (seq R S) = same P R && same Q S
same (par A P Q) (par C R S) = nat_eq A C && (same P R && same Q S)
same (hide A P) (hide C R) = nat_eq A C && same P R
same (ren A P) (ren C R) = same_pairs A C && same P R
same (intr P Q) (intr R S) = same P R && same Q S
same (name k) (name l) = nat_eq k l
same P Q = false

-- What a hasher is fed: a number for each form, events, names and the parts. Sets and pairs are left out.
abbrev pub hash_writes : Proc → List (List ℕ)
hash_writes stop = fed.u8 0
hash_writes skip = fed.u8 1
hash_writes (prefix a P) = fed.u8 2 ++ (fed.u8 a ++ hash_writes P)
hash_writes (ext P Q) = fed.u8 3 ++ (hash_writes P ++ hash_writes Q)
hash_writes (int P Q) = fed.u8 4 ++ (hash_writes P ++ hash_writes Q)
hash_writes (seq P Q) = fed.u8 5 ++ (hash_writes P ++ hash_writes Q)
hash_writes (par A P Q) = fed.u8 6 ++ (hash_writes P ++ hash_writes Q)
hash_writes (hide A P) = fed.u8 7 ++ hash_writes P
hash_writes (ren R P) = fed.u8 8 ++ hash_writes P
hash_writes (intr P Q) = fed.u8 9 ++ (hash_writes P ++ hash_writes Q)
hash_writes (name k) = fed.u8 10 ++ fed.usize k
