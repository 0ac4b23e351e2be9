-- The processes of nodes.
use Rattle.std.specs.Prelude.{ℕ, suc, ◌<◌, List, [], ◌∷◌, ◌++◌, length, get_or}
use Rattle.alphabet.specs.EventSets.{Set}
use Rattle.term.specs.Traces.{Pairs}
use Rattle.term.specs.Proc.{Proc, stop, skip, prefix, ext, int, seq, par, hide, ren, intr, name}
use Rattle.nodes.specs.declared.node.Node.{Node}
use Rattle.nodes.specs.declared.terms.Operator.{Operator}
use Rattle.nodes.specs.declared.terms.Operator.TheVariants as operator
use Rattle.nodes.specs.declared.node.Node.TheVariants.{Stop, Skip, Prefix, Ext, Int, Seq, Par, Hide, Ren, Intr, Name}

-- What operators take beside processes, each by its place: sets of events, and the relations of renamings.
pub record Parameters : Type 0 where
  pub sets : List Set
  pub relations : List Pairs

-- The set with this number.
abbrev pub set_at : Parameters → ℕ → Set
set_at S A = get_or S.sets A 0

-- The relation with this number.
abbrev pub relation_at : Parameters → ℕ → Pairs
relation_at S R = get_or S.relations R []

-- The process with this number.
abbrev pub at : List Proc → ℕ → Proc
at ps n = get_or ps n stop

-- The process of a node, where ps has those of its parts.
abbrev pub shape : Parameters → List Proc → Node → Proc
shape S ps Stop = stop
shape S ps Skip = skip
shape S ps (Prefix a p) = prefix a (at ps p)
shape S ps (Ext p q) = ext (at ps p) (at ps q)
shape S ps (Int p q) = int (at ps p) (at ps q)
shape S ps (Seq p q) = seq (at ps p) (at ps q)
shape S ps (Par A p q) = par (set_at S A) (at ps p) (at ps q)
shape S ps (Hide A p) = hide (set_at S A) (at ps p)
shape S ps (Ren R p) = ren (relation_at S R) (at ps p)
shape S ps (Intr p q) = intr (at ps p) (at ps q)
shape S ps (Name k) = name k

-- The operator over these two.
abbrev pub over : Operator → Proc → Proc → Proc
over operator.Ext P Q = ext P Q
over operator.Int P Q = int P Q
over operator.Seq P Q = seq P Q
over operator.Intr P Q = intr P Q

-- The number of processes that the process is made of.
abbrev pub parts : Proc → ℕ
parts stop = 0
parts skip = 0
parts (prefix a P) = 1
parts (ext P Q) = 2
parts (int P Q) = 2
parts (seq P Q) = 2
parts (par A P Q) = 2
parts (hide A P) = 1
parts (ren R P) = 1
parts (intr P Q) = 2
parts (name k) = 0

-- The node's set or relation is one of these, and the numbers of its parts are below n.
abbrev pub IsWithin : Parameters → ℕ → Node → Type 0
IsWithin S n Stop = Unit {0}
IsWithin S n Skip = Unit {0}
IsWithin S n (Prefix a p) = p < n
IsWithin S n (Ext p q) = (p < n) × (q < n)
IsWithin S n (Int p q) = (p < n) × (q < n)
IsWithin S n (Seq p q) = (p < n) × (q < n)
IsWithin S n (Par A p q) = (A < length S.sets) × (p < n) × (q < n)
IsWithin S n (Hide A p) = (A < length S.sets) × (p < n)
IsWithin S n (Ren R p) = (R < length S.relations) × (p < n)
IsWithin S n (Intr p q) = (p < n) × (q < n)
IsWithin S n (Name k) = Unit {0}

-- The processes ps, and then those of these nodes, each made of processes before it.
abbrev pub listed : Parameters → List Node → List Proc → List Proc
listed S [] ps = ps
listed S (x ∷ xs) ps = listed S xs (ps ++ shape S ps x ∷ [])

-- The processes of the nodes, in their order.
abbrev pub processes : Parameters → List Node → List Proc
processes S xs = listed S xs []

-- Each node's parts stand before it, where the first node has the number n.
abbrev pub AllWithin : Parameters → ℕ → List Node → Type 0
AllWithin S n [] = Unit {0}
AllWithin S n (x ∷ xs) = IsWithin S n x × AllWithin S (suc n) xs
