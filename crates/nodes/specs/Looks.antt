-- Lists of numbers, and their processes.
use Rattle.std.specs.Prelude.{◌≡◌, ℕ, false, ◌<◌, ◌⊎◌, List, [], ◌∷◌, length, map}
use Rattle.term.specs.Proc.{Proc, skip, ext, seq, par, hide, ren, intr}
use Rattle.term.specs.Limits.{Terms}
use Rattle.term.specs.Steps.{Act, Hid, Ticks, is_skip}
use Rattle.term.specs.Traces.{In}
use Rattle.targets.specs.Among.{ActsIn}
use Rattle.targets.specs.Cuts.{CutOf}
use Rattle.targets.specs.Targets.{sources}
use Rattle.nodes.specs.declared.node.Node.{Node}
use Rattle.nodes.specs.declared.node.Node.TheVariants as node
use Rattle.nodes.specs.declared.places.Place.{Place}
use Rattle.nodes.specs.declared.places.Place.TheVariants.{ExtLeft, ExtRight, SeqLeft, ParLeft, ParRight, Hide, Ren, IntrLeft, IntrRight}
use Rattle.nodes.specs.Shapes.{at, set_at, relation_at}
use Rattle.nodes.specs.Tables.{Tabled}

-- The processes with these numbers.
abbrev pub look : List Proc → List ℕ → List Proc
look ps ns = map (at ps) ns

-- All these numbers are below n.
abbrev pub AllBelow : ℕ → List ℕ → Type 0
AllBelow n [] = Unit {0}
AllBelow n (k ∷ ks) = (k < n) × AllBelow n ks

-- Numbers of members of the set, none twice: of all of them, or of more than this many.
pub record IsCutIn (t : Tabled) (S : Terms) (most : ℕ) (ns : List ℕ) : Type 0 where
  pub here : AllBelow (length t.processes) ns
  pub cut : CutOf S most (look t.processes ns)

-- What P becomes by one of these events.
abbrev pub ActsBy : List ℕ → Proc → Terms
ActsBy events P Q = (a : ℕ) × In a events × Act P a Q

-- The process with this part in its place.
abbrev pub around : Tabled → Place → Proc → Proc
around t (ExtLeft q) P = ext P (at t.processes q)
around t (ExtRight p) P = ext (at t.processes p) P
around t (SeqLeft q) P = seq P (at t.processes q)
around t (ParLeft A q) P = par (set_at t.parameters A) P (at t.processes q)
around t (ParRight A p) P = par (set_at t.parameters A) (at t.processes p) P
around t (Hide A) P = hide (set_at t.parameters A) P
around t (Ren R) P = ren (relation_at t.parameters R) P
around t (IntrLeft q) P = intr P (at t.processes q)
around t (IntrRight p) P = intr (at t.processes p) P

-- What else the operator has is in the table.
abbrev pub IsPlaceIn : Tabled → Place → Type 0
IsPlaceIn t (ExtLeft q) = q < length t.processes
IsPlaceIn t (ExtRight p) = p < length t.processes
IsPlaceIn t (SeqLeft q) = q < length t.processes
IsPlaceIn t (ParLeft A q) = (A < length t.parameters.sets) × (q < length t.processes)
IsPlaceIn t (ParRight A p) = (A < length t.parameters.sets) × (p < length t.processes)
IsPlaceIn t (Hide A) = A < length t.parameters.sets
IsPlaceIn t (Ren R) = R < length t.parameters.relations
IsPlaceIn t (IntrLeft q) = q < length t.processes
IsPlaceIn t (IntrRight p) = p < length t.processes

-- The lists have what the node's parts become by the event; under a renaming what the part becomes by the events that are
-- taken to it.
abbrev pub AreActsOfParts : Tabled → Node → ℕ → ℕ → List ℕ → List ℕ → Type 0
AreActsOfParts t node.Stop a most l r = Unit {0}
AreActsOfParts t node.Skip a most l r = Unit {0}
AreActsOfParts t (node.Prefix b p) a most l r = Unit {0}
AreActsOfParts t (node.Ext p q) a most l r =
    IsCutIn t (Act (at t.processes p) a) most l × IsCutIn t (Act (at t.processes q) a) most r
AreActsOfParts t (node.Int p q) a most l r = Unit {0}
AreActsOfParts t (node.Seq p q) a most l r = IsCutIn t (Act (at t.processes p) a) most l
AreActsOfParts t (node.Par A p q) a most l r =
    IsCutIn t (Act (at t.processes p) a) most l × IsCutIn t (Act (at t.processes q) a) most r
AreActsOfParts t (node.Hide A p) a most l r = IsCutIn t (Act (at t.processes p) a) most l
AreActsOfParts t (node.Ren R p) a most l r =
    IsCutIn t (ActsBy (sources (relation_at t.parameters R) a) (at t.processes p)) most l
AreActsOfParts t (node.Intr p q) a most l r =
    IsCutIn t (Act (at t.processes p) a) most l × IsCutIn t (Act (at t.processes q) a) most r
AreActsOfParts t (node.Name k) a most l r = Unit {0}

-- Q is in the set, or it is `SKIP`, into which P turns where it can terminate and isn't `SKIP` itself.
abbrev pub OrEnd : Terms → Proc → Terms
OrEnd S P Q = S Q ⊎ ((Q ≡ skip) × ((is_skip P ≡ false) × Ticks P))

-- The lists have what the node's parts become by a hidden step: for a parallel with `SKIP` for each side that can end, for
-- a hiding with what the part becomes by the hidden events, and for a name its body.
abbrev pub AreHidsOfParts : Tabled → (ℕ → Proc) → Node → ℕ → List ℕ → List ℕ → Type 0
AreHidsOfParts t B node.Stop most l r = Unit {0}
AreHidsOfParts t B node.Skip most l r = Unit {0}
AreHidsOfParts t B (node.Prefix b p) most l r = Unit {0}
AreHidsOfParts t B (node.Ext p q) most l r =
    IsCutIn t (Hid B (at t.processes p)) most l × IsCutIn t (Hid B (at t.processes q)) most r
AreHidsOfParts t B (node.Int p q) most l r = Unit {0}
AreHidsOfParts t B (node.Seq p q) most l r = IsCutIn t (Hid B (at t.processes p)) most l
AreHidsOfParts t B (node.Par A p q) most l r =
    IsCutIn t (OrEnd (Hid B (at t.processes p)) (at t.processes p)) most l
    × IsCutIn t (OrEnd (Hid B (at t.processes q)) (at t.processes q)) most r
AreHidsOfParts t B (node.Hide A p) most l r =
    IsCutIn t (λ Q. Hid B (at t.processes p) Q ⊎ ActsIn (set_at t.parameters A) (at t.processes p) Q) most l
AreHidsOfParts t B (node.Ren R p) most l r = IsCutIn t (Hid B (at t.processes p)) most l
AreHidsOfParts t B (node.Intr p q) most l r =
    IsCutIn t (Hid B (at t.processes p)) most l × IsCutIn t (Hid B (at t.processes q)) most r
AreHidsOfParts t B (node.Name k) most l r = IsCutIn t (λ R. R ≡ B k) most l
