-- Numbers that were given to definitions stay; sizes and depths don't depend on them.
use Rattle.std.proofs.Common.{◌≡◌, ℕ, suc, ◌+◌, max, List, [], ◌∷◌, map, ◌++◌, refl, sym, ap, ap₂, ◌∙◌, append_assoc}
use Rattle.term.specs.Proc as procs
use Rattle.term.specs.Sizes as terms
use Rattle.denotation.specs.Bodies.{size, sizes, depth, Key, Body, stop, skip, prefix, ext, int, seq, par, hide, ren, intr, name, names, numbered}
use Rattle.denotation.specs.declared.draft.Joint.{Joint}
use Rattle.denotation.specs.declared.draft.Joint.TheVariants as joints
use Rattle.denotation.specs.declared.forms.Join.TheVariants as joins
use Rattle.denotation.specs.Phrases.{joint_of, join_of}
use Rattle.denotation.specs.Denotes.{place, with_key, with_keys, nodes}
use Rattle.denotation.proofs.Keys.{keys_append, place_stays, has_with}

-- ---- numbers stay

-- the process with the numbers of a later table
abbrev Stays : Body → Type 0
Stays b = (ks more : List Key) → numbered (place (with_keys ks (names b ++ more))) b ≡ numbered (place (with_keys ks (names b))) b

-- the first part of two
left : (p : Body) (ns : List Key) → Stays p → (ks more : List Key) → numbered (place (with_keys ks ((names p ++ ns) ++ more))) p ≡ numbered (place (with_keys ks (names p ++ ns))) p
left p ns h ks more = ap (λ xs. numbered (place (with_keys ks xs)) p) (append_assoc (names p) ns more) ∙ h ks (ns ++ more) ∙ sym (h ks ns)

right : (q : Body) (ns : List Key) → Stays q → (ks more : List Key) → numbered (place (with_keys ks ((ns ++ names q) ++ more))) q ≡ numbered (place (with_keys ks (ns ++ names q))) q
right q ns h ks more =
    ap (λ xs. numbered (place (with_keys ks xs)) q) (append_assoc ns (names q) more) ∙ ap (λ ls. numbered (place ls) q) (keys_append ks ns (names q ++ more))
    ∙ h (with_keys ks ns) more ∙ sym (ap (λ ls. numbered (place ls) q) (keys_append ks ns (names q)))

pub stays : (b : Body) → Stays b
unfolding numbered names with_keys
stays stop ks more = refl
stays skip ks more = refl
stays (prefix a p) ks more = ap (procs.prefix a) (stays p ks more)
stays (ext p q) ks more = ap₂ procs.ext (left p (names q) (stays p) ks more) (right q (names p) (stays q) ks more)
stays (int p q) ks more = ap₂ procs.int (left p (names q) (stays p) ks more) (right q (names p) (stays q) ks more)
stays (seq p q) ks more = ap₂ procs.seq (left p (names q) (stays p) ks more) (right q (names p) (stays q) ks more)
stays (par A p q) ks more = ap₂ (procs.par A) (left p (names q) (stays p) ks more) (right q (names p) (stays q) ks more)
stays (hide A p) ks more = ap (procs.hide A) (stays p ks more)
stays (ren R p) ks more = ap (procs.ren R) (stays p ks more)
stays (intr p q) ks more = ap₂ procs.intr (left p (names q) (stays p) ks more) (right q (names p) (stays q) ks more)
stays (name k) ks more = ap procs.name (place_stays more (with_key ks k) k (has_with ks k))

-- what was numbered stays so where more is numbered after it
pub then_more : (b : Body) (ks ls : List Key) (more : List Key) → with_keys ks (names b) ≡ ls → numbered (place (with_keys ls more)) b ≡ numbered (place ls) b
then_more b ks ls more h =
    ap (λ ls. numbered (place (with_keys ls more)) b) (sym h) ∙ ap (λ ls. numbered (place ls) b) (sym (keys_append ks (names b) more))
    ∙ stays b ks more ∙ ap (λ ls. numbered (place ls) b) h

-- ---- two that are joined

pub joint_names : (k : Joint) (p q : Body) → names (joint_of k p q) ≡ names p ++ names q
unfolding joint_of join_of names
joint_names (joints.Join joins.Sequence) p q = refl
joint_names (joints.Join m) p q = refl
joint_names (joints.Sharing A) p q = refl

pub joint_depth : (k : Joint) (p q : Body) → depth (joint_of k p q) ≡ suc (max (depth p) (depth q))
unfolding joint_of join_of depth
joint_depth (joints.Join joins.Sequence) p q = refl
joint_depth (joints.Join m) p q = refl
joint_depth (joints.Sharing A) p q = refl

-- ---- sizes and depths

module _ (f : Key → ℕ) where
  pub same_size : (b : Body) → terms.size (numbered f b) ≡ size b
  unfolding numbered size
  same_size stop = refl
  same_size skip = refl
  same_size (prefix a p) = ap suc (same_size p)
  same_size (ext p q) = ap₂ (λ m n. suc (m + n)) (same_size p) (same_size q)
  same_size (int p q) = ap₂ (λ m n. suc (m + n)) (same_size p) (same_size q)
  same_size (seq p q) = ap₂ (λ m n. suc (m + n)) (same_size p) (same_size q)
  same_size (par A p q) = ap₂ (λ m n. suc (m + n)) (same_size p) (same_size q)
  same_size (hide A p) = ap suc (same_size p)
  same_size (ren R p) = ap suc (same_size p)
  same_size (intr p q) = ap₂ (λ m n. suc (m + n)) (same_size p) (same_size q)
  same_size (name k) = refl

  pub same_depth : (b : Body) → terms.depth (numbered f b) ≡ depth b
  unfolding numbered depth
  same_depth stop = refl
  same_depth skip = refl
  same_depth (prefix a p) = ap suc (same_depth p)
  same_depth (ext p q) = ap₂ (λ m n. suc (max m n)) (same_depth p) (same_depth q)
  same_depth (int p q) = ap₂ (λ m n. suc (max m n)) (same_depth p) (same_depth q)
  same_depth (seq p q) = ap₂ (λ m n. suc (max m n)) (same_depth p) (same_depth q)
  same_depth (par A p q) = ap₂ (λ m n. suc (max m n)) (same_depth p) (same_depth q)
  same_depth (hide A p) = ap suc (same_depth p)
  same_depth (ren R p) = ap suc (same_depth p)
  same_depth (intr p q) = ap₂ (λ m n. suc (max m n)) (same_depth p) (same_depth q)
  same_depth (name k) = refl

  pub same_nodes : (bs : List Body) → nodes (map (numbered f) bs) ≡ sizes bs
  unfolding nodes sizes
  same_nodes [] = refl
  same_nodes (b ∷ bs) = ap₂ (λ m n. m + n) (same_size b) (same_nodes bs)
