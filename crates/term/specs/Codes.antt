-- Processes and channels as lists of numbers, which give them back: what a model that holds them needs. It says nothing
-- of their meaning. The list of a process has its nodes from the leaves up, each after its parts.
use Rattle.std.specs.Prelude.{◌≡◌, ℕ, ℤ, zero, suc, ◌⊎◌, List, [], ◌∷◌}
use Rattle.std.specs.Coded.{Coded, code_by, coded×, coded⊎, coded_ℕ, coded_ℤ, coded_list}
use Rattle.alphabet.specs.Channels.{FieldValue, number, constant, Channel}
use Rattle.std.proofs.Common.{inl, inr, refl, ◌∙◌, ap}
use Rattle.term.specs.Traces.{Pairs}
use Rattle.term.specs.Proc.{Proc, stop, skip, prefix, ext, int, seq, par, hide, ren, intr, name}

-- a node: one without parts, one with a single part (a prefix, a hiding or a renaming), or one with two
abbrev pub Node : Type 0
Node = ℕ ⊎ ((ℕ ⊎ (ℕ ⊎ Pairs)) ⊎ ℕ)

abbrev leaf : ℕ → Proc
leaf zero = stop
leaf (suc zero) = skip
leaf (suc (suc k)) = name k

abbrev single : ℕ ⊎ (ℕ ⊎ Pairs) → Proc → Proc
single (inl a) P = prefix a P
single (inr (inl A)) P = hide A P
single (inr (inr R)) P = ren R P

abbrev double : ℕ → Proc → Proc → Proc
double zero P Q = ext P Q
double (suc zero) P Q = int P Q
double (suc (suc zero)) P Q = seq P Q
double (suc (suc (suc zero))) P Q = intr P Q
double (suc (suc (suc (suc A)))) P Q = par A P Q

-- the nodes of P, and then these
abbrev pub nodes : Proc → List Node → List Node
nodes stop r = inl 0 ∷ r
nodes skip r = inl 1 ∷ r
nodes (prefix a P) r = nodes P (inr (inl (inl a)) ∷ r)
nodes (ext P Q) r = nodes P (nodes Q (inr (inr 0) ∷ r))
nodes (int P Q) r = nodes P (nodes Q (inr (inr 1) ∷ r))
nodes (seq P Q) r = nodes P (nodes Q (inr (inr 2) ∷ r))
nodes (par A P Q) r = nodes P (nodes Q (inr (inr (suc (suc (suc (suc A))))) ∷ r))
nodes (hide A P) r = nodes P (inr (inl (inr (inl A))) ∷ r)
nodes (ren R P) r = nodes P (inr (inl (inr (inr R))) ∷ r)
nodes (intr P Q) r = nodes P (nodes Q (inr (inr 3) ∷ r))
nodes (name k) r = inl (suc (suc k)) ∷ r

-- one node on top of the processes read so far
abbrev put : Node → List Proc → List Proc
put (inl n) ps = leaf n ∷ ps
put (inr (inl u)) [] = []
put (inr (inl u)) (P ∷ ps) = single u P ∷ ps
put (inr (inr b)) [] = []
put (inr (inr b)) (Q ∷ []) = []
put (inr (inr b)) (Q ∷ P ∷ ps) = double b P Q ∷ ps

abbrev pub read : List Node → List Proc → List Proc
read [] ps = ps
read (n ∷ ns) ps = read ns (put n ps)

abbrev first : List Proc → Proc
first [] = stop
first (P ∷ ps) = P

pub read-nodes : (P : Proc) (r : List Node) (ps : List Proc) → read (nodes P r) ps ≡ read r (P ∷ ps)
read-nodes stop r ps = refl
read-nodes skip r ps = refl
read-nodes (prefix a P) r ps = read-nodes P (inr (inl (inl a)) ∷ r) ps
read-nodes (ext P Q) r ps =
    read-nodes P (nodes Q (inr (inr 0) ∷ r)) ps ∙ read-nodes Q (inr (inr 0) ∷ r) (P ∷ ps)
read-nodes (int P Q) r ps =
    read-nodes P (nodes Q (inr (inr 1) ∷ r)) ps ∙ read-nodes Q (inr (inr 1) ∷ r) (P ∷ ps)
read-nodes (seq P Q) r ps =
    read-nodes P (nodes Q (inr (inr 2) ∷ r)) ps ∙ read-nodes Q (inr (inr 2) ∷ r) (P ∷ ps)
read-nodes (par A P Q) r ps =
    read-nodes P (nodes Q (inr (inr (suc (suc (suc (suc A))))) ∷ r)) ps
    ∙ read-nodes Q (inr (inr (suc (suc (suc (suc A))))) ∷ r) (P ∷ ps)
read-nodes (hide A P) r ps = read-nodes P (inr (inl (inr (inl A))) ∷ r) ps
read-nodes (ren R P) r ps = read-nodes P (inr (inl (inr (inr R))) ∷ r) ps
read-nodes (intr P Q) r ps =
    read-nodes P (nodes Q (inr (inr 3) ∷ r)) ps ∙ read-nodes Q (inr (inr 3) ∷ r) (P ∷ ps)
read-nodes (name k) r ps = refl

abbrev pub node_code : Coded Node
node_code =
    coded⊎ coded_ℕ (coded⊎ (coded⊎ coded_ℕ (coded⊎ coded_ℕ (coded_list (coded× coded_ℕ coded_ℕ)))) coded_ℕ)

abbrev pub proc_code : Coded Proc
proc_code =
    code_by (List Node) (coded_list node_code) (λ P. nodes P []) (λ ns. first (read ns [])) (λ P. ap first (read-nodes P [] []))

-- ---- channels
abbrev value_parts : FieldValue → ℤ ⊎ List ℕ
value_parts (number z) = inl z
value_parts (constant text) = inr text

abbrev of_parts : ℤ ⊎ List ℕ → FieldValue
of_parts (inl z) = number z
of_parts (inr text) = constant text

pub of-value_parts : (v : FieldValue) → of_parts (value_parts v) ≡ v
of-value_parts (number z) = refl
of-value_parts (constant text) = refl

abbrev pub value_code : Coded FieldValue
value_code = code_by (ℤ ⊎ List ℕ) (coded⊎ coded_ℤ (coded_list coded_ℕ)) value_parts of_parts of-value_parts

abbrev pub channel_code : Coded Channel
channel_code =
    code_by (List ℕ × List (List FieldValue)) (coded× (coded_list coded_ℕ) (coded_list (coded_list value_code))) (λ c. (c.name, c.fields)) (λ p. record { name = p.0; fields = p.1 }) (λ _. refl)
