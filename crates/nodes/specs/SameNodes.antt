-- The test whether two nodes are the same, and what a table by hash is fed of a node: a number for its operator and
-- then its numbers.
use Rattle.std.proofs.Common.{◌≡◌, ℕ, ◌+◌, ◌*◌, ◌%◌, ◌^◌, Bool, true, ◌&&◌, List, [], ◌∷◌, ◌++◌, get_or, nat_eq, bit_or, refl, sym, ap, ◌∙◌, subst}
use Rattle.std.proofs.lemmas.Bool.{eqb-true, eq-eqb}
use Rattle.std.specs.Cmp.{IsEquivalence, IsPartialEquivalence, partial_equiv_from_equiv, both_ways}
use Rattle.std.specs.Hash as fed
use Rattle.term.specs.SameLaws.{and-cases, and-both}
use Rattle.nodes.specs.declared.node.Node.{Node}
use Rattle.nodes.specs.declared.node.Node.TheVariants.{Stop, Skip, Prefix, Ext, Int, Seq, Par, Hide, Ren, Intr, Name}

-- A number for the operator, and then the node's numbers.
abbrev pub key : Node → ℕ × ℕ × ℕ × ℕ
key Stop = (0, 0, 0, 0)
key Skip = (1, 0, 0, 0)
key (Prefix a p) = (2, a, p, 0)
key (Ext p q) = (3, 0, p, q)
key (Int p q) = (4, 0, p, q)
key (Seq p q) = (5, 0, p, q)
key (Par A p q) = (6, A, p, q)
key (Hide A p) = (7, A, p, 0)
key (Ren R p) = (8, R, p, 0)
key (Intr p q) = (9, 0, p, q)
key (Name k) = (10, k, 0, 0)

-- Both have the same key.
abbrev pub same_node : Node → Node → Bool
same_node x y =
    nat_eq (key x).0 (key y).0 && (nat_eq (key x).1 (key y).1 && (nat_eq (key x).2 (key y).2 && nat_eq (key x).3 (key y).3))

-- What a hasher is fed: two words.
abbrev pub hash_writes : ℕ × ℕ × ℕ × ℕ → List (List ℕ)
hash_writes k = fed.u64 ((k.1 + (k.0 * 2 ^ 56) % 2 ^ 64) % 2 ^ 64) ++ fed.u64 (bit_or ((k.2 * 2 ^ 32) % 2 ^ 64) k.3)

-- ---- a key is that of one node
abbrev node_of : ℕ × ℕ × ℕ × ℕ → Node
node_of k =
    get_or (Stop ∷ Skip ∷ Prefix k.1 k.2 ∷ Ext k.2 k.3 ∷ Int k.2 k.3 ∷ Seq k.2 k.3 ∷ Par k.1 k.2 k.3 ∷ Hide k.1 k.2 ∷ Ren k.1 k.2 ∷ Intr k.2 k.3 ∷ Name k.1 ∷ []) k.0 Stop

node_of-key : (x : Node) → node_of (key x) ≡ x
node_of-key Stop = refl
node_of-key Skip = refl
node_of-key (Prefix a p) = refl
node_of-key (Ext p q) = refl
node_of-key (Int p q) = refl
node_of-key (Seq p q) = refl
node_of-key (Par A p q) = refl
node_of-key (Hide A p) = refl
node_of-key (Ren R p) = refl
node_of-key (Intr p q) = refl
node_of-key (Name k) = refl

same-key : (j k : ℕ × ℕ × ℕ × ℕ) → (nat_eq j.0 k.0 && (nat_eq j.1 k.1 && (nat_eq j.2 k.2 && nat_eq j.3 k.3))) ≡ true → j ≡ k
same-key j k e =
    let (a, f) = and-cases (nat_eq j.0 k.0) (nat_eq j.1 k.1 && (nat_eq j.2 k.2 && nat_eq j.3 k.3)) e in
    let (b, h) = and-cases (nat_eq j.1 k.1) (nat_eq j.2 k.2 && nat_eq j.3 k.3) f in
    let (c, d) = and-cases (nat_eq j.2 k.2) (nat_eq j.3 k.3) h in
    all (eqb-true j.0 k.0 a) (eqb-true j.1 k.1 b) (eqb-true j.2 k.2 c) (eqb-true j.3 k.3 d)
  where
    all : j.0 ≡ k.0 → j.1 ≡ k.1 → j.2 ≡ k.2 → j.3 ≡ k.3 → j ≡ k
    all a b c d = rw (a, b, c, d) refl

pub same_node-eq : (x y : Node) → same_node x y ≡ true → x ≡ y
same_node-eq x y e = sym (node_of-key x) ∙ ap node_of (same-key (key x) (key y) e) ∙ node_of-key y

pub same_node-refl : (x : Node) → same_node x x ≡ true
same_node-refl x =
    let k = key x in
    and-both (nat_eq k.0 k.0) (nat_eq k.1 k.1 && (nat_eq k.2 k.2 && nat_eq k.3 k.3)) (eq-eqb k.0 k.0 refl)
    (and-both (nat_eq k.1 k.1) (nat_eq k.2 k.2 && nat_eq k.3 k.3) (eq-eqb k.1 k.1 refl)
    (and-both (nat_eq k.2 k.2) (nat_eq k.3 k.3) (eq-eqb k.2 k.2 refl) (eq-eqb k.3 k.3 refl)))

pub same_node-laws : IsEquivalence same_node
same_node-laws = record {
  refl = same_node-refl;
  symm = λ x y. both_ways (same_node x y) (same_node y x) (turn x y) (turn y x);
  congr = λ x y z e. ap (λ n. same_node n z) (same_node-eq x y e);
}
  where
    turn : (x y : Node) → same_node x y ≡ true → same_node y x ≡ true
    turn x y e = let P : Node → Type 0 = λ n. same_node y n ≡ true in subst P (sym (same_node-eq x y e)) (same_node-refl y)

pub same_node-partial : IsPartialEquivalence same_node
same_node-partial = partial_equiv_from_equiv same_node-laws

pub same_node-writes : (x y : Node) → same_node x y ≡ true → hash_writes (key x) ≡ hash_writes (key y)
same_node-writes x y e = ap (λ n. hash_writes (key n)) (same_node-eq x y e)
