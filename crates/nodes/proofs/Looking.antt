-- Lists of numbers in a table that grows.
use Rattle.std.proofs.Common.{◌≡◌, ℕ, zero, suc, ◌<◌, ◌≤◌, List, [], ◌∷◌, ◌++◌, length, map, get_or, refl, sym, ap, ◌∙◌, subst, arith}
use Rattle.term.specs.Proc.{Proc, stop, ext, seq, hide, ren, intr}
use Rattle.term.specs.Limits.{Terms}
use Rattle.targets.specs.Cuts.{CutOf}
use Rattle.nodes.specs.declared.places.Place.{Place}
use Rattle.nodes.specs.declared.places.Place.TheVariants.{ExtLeft, ExtRight, SeqLeft, ParLeft, ParRight, Hide, Ren, IntrLeft, IntrRight}
use Rattle.nodes.specs.Shapes.{at, set_at, relation_at}
use Rattle.nodes.specs.Tables.{Tabled, HasGrown}
use Rattle.nodes.specs.Looks.{look, around, AllBelow, IsCutIn, IsPlaceIn}
use Rattle.nodes.proofs.Listing.{begins-at, begins-longer}
use Rattle.nodes.proofs.Putting.{longer}

map-same : (f g : Proc → Proc) → ((P : Proc) → f P ≡ g P) → (l : List Proc) → map f l ≡ map g l
map-same f g same [] = refl
map-same f g same (P ∷ l) = rw (same P, map-same f g same l) refl

-- ---- numbers
pub below-more : (m n : ℕ) (ns : List ℕ) → AllBelow m ns → m ≤ n → AllBelow n ns
below-more m n [] a h = tt
below-more m n (k ∷ ks) a h = (omega arith, below-more m n ks a.1 h)

pub below-at : (n : ℕ) (ns : List ℕ) (k d : ℕ) → AllBelow n ns → k < length ns → get_or ns k d < n
below-at n [] k d a h = absurd (omega arith)
below-at n (m ∷ ms) zero d a h = a.0
below-at n (m ∷ ms) (suc k) d a h = below-at n ms k d a.1 (omega arith)

pub below-push : (n : ℕ) (ns : List ℕ) (m : ℕ) → AllBelow n ns → m < n → AllBelow n (ns ++ m ∷ [])
below-push n [] m a h = (h, tt)
below-push n (k ∷ ks) m a h = (a.0, below-push n ks m a.1 h)

-- ---- a table that grows
module _ (t u : Tabled) (g : HasGrown t u) where
  pub below-grown : (ns : List ℕ) → AllBelow (length t.processes) ns → AllBelow (length u.processes) ns
  below-grown ns a = below-more (length t.processes) (length u.processes) ns a (longer t u g)

  pub at-grown : (n : ℕ) → n < length t.processes → at u.processes n ≡ at t.processes n
  at-grown n h = begins-at stop t.processes u.processes n g.processes h

  pub set-grown : (A : ℕ) → A < length t.parameters.sets → set_at u.parameters A ≡ set_at t.parameters A
  set-grown A h = begins-at 0 t.parameters.sets u.parameters.sets A g.parameters.sets h

  pub relation-grown : (R : ℕ) → R < length t.parameters.relations → relation_at u.parameters R ≡ relation_at t.parameters R
  relation-grown R h = begins-at [] t.parameters.relations u.parameters.relations R g.parameters.relations h

  pub look-grown : (ns : List ℕ) → AllBelow (length t.processes) ns → look u.processes ns ≡ look t.processes ns
  look-grown [] a = refl
  look-grown (k ∷ ks) a = rw (at-grown k a.0, look-grown ks a.1) refl

  pub cut-grown : (S : Terms) (most : ℕ) (ns : List ℕ) → IsCutIn t S most ns → IsCutIn u S most ns
  cut-grown S most ns c = record {
    here = below-grown ns c.here;
    cut = subst (CutOf S most) (sym (look-grown ns c.here)) c.cut;
  }

  sets-grown : length t.parameters.sets ≤ length u.parameters.sets
  sets-grown = begins-longer 0 t.parameters.sets u.parameters.sets g.parameters.sets

  relations-grown : length t.parameters.relations ≤ length u.parameters.relations
  relations-grown = begins-longer [] t.parameters.relations u.parameters.relations g.parameters.relations

  pub set-within : (A : ℕ) → A < length t.parameters.sets → A < length u.parameters.sets
  set-within A h = omega (arith, sets-grown)

  pub part-within : (p : ℕ) → p < length t.processes → p < length u.processes
  part-within p h = omega (arith, longer t u g)

  pub place-grown : (place : Place) → IsPlaceIn t place → IsPlaceIn u place
  place-grown (ExtLeft q) w = part-within q w
  place-grown (ExtRight p) w = part-within p w
  place-grown (SeqLeft q) w = part-within q w
  place-grown (ParLeft A q) w = (set-within A w.0, part-within q w.1)
  place-grown (ParRight A p) w = (set-within A w.0, part-within p w.1)
  place-grown (Hide A) w = set-within A w
  place-grown (Ren R) w = omega (arith, relations-grown)
  place-grown (IntrLeft q) w = part-within q w
  place-grown (IntrRight p) w = part-within p w

  pub around-grown : (place : Place) (P : Proc) → IsPlaceIn t place → around u place P ≡ around t place P
  around-grown (ExtLeft q) P w = ap (ext P) (at-grown q w)
  around-grown (ExtRight p) P w = ap (λ X. ext X P) (at-grown p w)
  around-grown (SeqLeft q) P w = ap (seq P) (at-grown q w)
  around-grown (ParLeft A q) P w = rw (set-grown A w.0, at-grown q w.1) refl
  around-grown (ParRight A p) P w = rw (set-grown A w.0, at-grown p w.1) refl
  around-grown (Hide A) P w = ap (λ s. hide s P) (set-grown A w)
  around-grown (Ren R) P w = ap (λ r. ren r P) (relation-grown R w)
  around-grown (IntrLeft q) P w = ap (intr P) (at-grown q w)
  around-grown (IntrRight p) P w = ap (λ X. intr X P) (at-grown p w)

  pub each-grown : (place : Place) (ns : List ℕ) → IsPlaceIn t place → AllBelow (length t.processes) ns → map (around u place) (look u.processes ns) ≡ map (around t place) (look t.processes ns)
  each-grown place ns w a = map-same (around u place) (around t place) (λ P. around-grown place P w) (look u.processes ns) ∙ ap (map (around t place)) (look-grown ns a)
