-- Processes by number, of which there get more.
use Rattle.std.proofs.Common.{◌≡◌, ℕ, ◌<◌, List, length, refl, sym, ap, ◌∙◌, subst, arith}
use Rattle.term.specs.Proc.{Proc, bodies_of, prefix}
use Rattle.term.specs.Limits.{Terms, most_states}
use Rattle.targets.specs.declared.labels.Label.{Label}
use Rattle.targets.specs.HiddenSets.{SetsBelow}
use Rattle.targets.specs.Labels.{Step}
use Rattle.nodes.specs.declared.node.Node.{Node}
use Rattle.nodes.specs.declared.node.Node.TheVariants.{Stop, Skip, Prefix, Ext, Int, Seq, Par, Hide, Ren, Intr, Name}
use Rattle.nodes.specs.Shapes.{at, set_at, relation_at, shape, IsWithin}
use Rattle.nodes.specs.Tables.{Tabled, HasGrown}
use Rattle.nodes.specs.Looks.{look, AllBelow, IsCutIn}
use Rattle.nodes.proofs.Putting.{same-grown, grown-on, longer}
use Rattle.nodes.proofs.Listing.{within-more}
use Rattle.nodes.proofs.Looking.{below-grown, at-grown, set-grown, relation-grown, look-grown, cut-grown, part-within}
use Rattle.transitions.specs.Memory.{Kept}
use Rattle.transitions.specs.Unfolding.{unfolded, capped}
use Rattle.transitions.specs.Numbered.{Numbered, numbered, KeepsNumbers, AreCutTargets, HidesEvents}
use Rattle.transitions.specs.Memory.{IsSound}

pub kept : (t u : Tabled) (ns : List ℕ) → AllBelow (length t.processes) ns → HasGrown t u → KeepsNumbers (numbered t ns) (numbered u ns)
kept t u ns a g = record { table = g; bodies = look-grown t u g ns a }

-- the same of what contracts see
pub kept-seen : (s : Numbered) (t u : Tabled) (ns : List ℕ) → numbered t ns ≡ s → AllBelow (length t.processes) ns → HasGrown t u → KeepsNumbers s (numbered u ns)
kept-seen s t u ns is a g = subst (λ (r : Numbered). KeepsNumbers r (numbered u ns)) is (kept t u ns a g)

pub kept-same : (s : Numbered) → KeepsNumbers s s
kept-same s = record { table = same-grown s.table; bodies = refl }

pub kept-on : (s r q : Numbered) → KeepsNumbers s r → KeepsNumbers r q → KeepsNumbers s q
kept-on s r q k l = record { table = grown-on s.table r.table q.table k.table l.table; bodies = l.bodies ∙ k.bodies }

module _ (s r : Numbered) (k : KeepsNumbers s r) where
  pub at-kept : (n : ℕ) → n < length s.table.processes → at r.table.processes n ≡ at s.table.processes n
  at-kept n h = at-grown s.table r.table k.table n h

  pub within-kept : (n : ℕ) → n < length s.table.processes → n < length r.table.processes
  within-kept n h = part-within s.table r.table k.table n h

  pub hides-kept : (n : ℕ) → n < length s.table.processes → HidesEvents s n → HidesEvents r n
  hides-kept n h d = subst (SetsBelow 256) (sym (at-kept n h)) d

  -- a cut of what is told of a process and the bodies
  pub cut-kept : (S : List Proc → Proc → Terms) (n most : ℕ) (ns : List ℕ) → n < length s.table.processes → IsCutIn s.table (S s.bodies (at s.table.processes n)) most ns → IsCutIn r.table (S r.bodies (at r.table.processes n)) most ns
  cut-kept S n most ns h c =
      subst (λ (B : List Proc). IsCutIn r.table (S B (at r.table.processes n)) most ns) (sym k.bodies)
      (subst (λ (P : Proc). IsCutIn r.table (S s.bodies P) most ns) (sym (at-kept n h))
      (cut-grown s.table r.table k.table (S s.bodies (at s.table.processes n)) most ns c))

  pub targets-kept : (n : ℕ) (l : Label) (most : ℕ) (ns : List ℕ) → n < length s.table.processes → AreCutTargets s n l most ns → AreCutTargets r n l most ns
  targets-kept n l most ns h c = cut-kept (λ B P. Step (bodies_of B) P l) n most ns h c

  -- a node whose parts are below n
  pub node-kept : (n : ℕ) (x : Node) → n < length s.table.processes → IsWithin s.table.parameters n x → IsWithin r.table.parameters (length r.table.processes) x
  node-kept n x h w = within-more s.table.parameters r.table.parameters n (length r.table.processes) x k.table.parameters (let l = within-kept n h in omega arith) w

  pub shape-kept : (n : ℕ) (x : Node) → n < length s.table.processes → IsWithin s.table.parameters n x → shape r.table.parameters r.table.processes x ≡ shape s.table.parameters s.table.processes x
  shape-kept n x h w = go x w
    where
      part : (p : ℕ) → p < n → at r.table.processes p ≡ at s.table.processes p
      part p l = at-kept p (omega arith)

      set : (A : ℕ) → A < length s.table.parameters.sets → set_at r.table.parameters A ≡ set_at s.table.parameters A
      set A l = set-grown s.table r.table k.table A l

      relation : (R : ℕ) → R < length s.table.parameters.relations → relation_at r.table.parameters R ≡ relation_at s.table.parameters R
      relation R l = relation-grown s.table r.table k.table R l

      go : (y : Node) → IsWithin s.table.parameters n y → shape r.table.parameters r.table.processes y ≡ shape s.table.parameters s.table.processes y
      go Stop v = refl
      go Skip v = refl
      go (Prefix a p) v = ap (prefix a) (part p v)
      go (Ext p q) v = rw (part p v.0, part q v.1) refl
      go (Int p q) v = rw (part p v.0, part q v.1) refl
      go (Seq p q) v = rw (part p v.0, part q v.1) refl
      go (Par A p q) v = rw (set A v.0, part p v.1, part q v.2) refl
      go (Hide A p) v = rw (set A v.0, part p v.1) refl
      go (Ren R p) v = rw (relation R v.0, part p v.1) refl
      go (Intr p q) v = rw (part p v.0, part q v.1) refl
      go (Name j) v = refl

pub sound-grown : (t u : Tabled) (ns : List ℕ) (m : Kept) (ds : List ℕ) → IsSound t ns m ds → HasGrown t u → IsSound u ns m ds
sound-grown t u ns m ds s g =
    let k = kept t u ns s.here g in
    record {
      here = below-grown t u g ns s.here;
      remembered = λ n l vs i e.
          let r = s.remembered n l vs i e in
          record {
            within = within-kept (numbered t ns) (numbered u ns) k n r.within;
            targets = targets-kept (numbered t ns) (numbered u ns) k n l most_states vs r.within r.targets;
          };
      few = omega (arith, s.few, longer t u g);
      depths = λ i d h.
          s.depths i d h
          ∙ ap (λ (B : List Proc). capped (unfolded (bodies_of B) (at t.processes i))) (sym (look-grown t u g ns s.here))
          ∙ ap (λ (P : Proc). capped (unfolded (bodies_of (look u.processes ns)) P)) (sym (at-grown t u g i (omega (arith, s.few, h))));
    }
