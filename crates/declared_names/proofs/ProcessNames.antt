-- Which names are those of processes.
use Rattle.std.proofs.Common.{◌≡◌, ◌≢◌, ℕ, zero, suc, ◌+◌, ◌<◌, ◌≤◌, List, [], ◌∷◌, length, get_or, Bool, true, false, None, Vec, refl, sym, ap, ◌∙◌, arith}
use Rattle.tokens.specs.declared.position.Position.{Position}
use Rattle.syntax.specs.declared.form.Form.{Form}
use Rattle.syntax.specs.declared.form.Form.TheVariants as forms
use Rattle.syntax.specs.declared.tree.Tree.{Tree, Node as TreeNode}
use Rattle.syntax.specs.Grammar.{Syntax, Called, Numeral, Node, Syntaxes, NoSyntax, MoreSyntax}
use Rattle.syntax.specs.Parsing.{syntaxes}
use Rattle.syntax.specs.View.{shape, shapes}
use Rattle.values.specs.Values.{Name}
use Rattle.values.specs.Names.{Entry, meaning, is_process_by, is_process_form, is_process_in, is_process_meaning, is_process}
use Rattle.values.proofs.Parts.{node_is}
use Rattle.declared_names.specs.Processes.{Follows}

-- ---- an event phrase

pub one_name : {A : Type 0} (name : Name → Bool) (ts : List (Tree A)) (t : Tree A) (n : Name) → length ts ≡ 1 → t ≡ get_or ts 0 t → shape t ≡ Called n → is_process_by name (Node forms.Event (syntaxes (shapes ts))) ≡ name n
unfolding is_process_by
one_name name [] t n h is e = absurd (omega (arith, h))
one_name name (u ∷ []) t n h is e = ap (λ s. is_process_by name (Node forms.Event (MoreSyntax s NoSyntax))) (ap shape (sym is) ∙ e)
one_name name (u ∷ v ∷ us) t n h is e = absurd (omega (arith, h))

pub one_number : {A : Type 0} (name : Name → Bool) (ts : List (Tree A)) (t : Tree A) (n : ℕ) → length ts ≡ 1 → t ≡ get_or ts 0 t → shape t ≡ Numeral n → is_process_by name (Node forms.Event (syntaxes (shapes ts))) ≡ false
unfolding is_process_by is_process_form
one_number name [] t n h is e = absurd (omega (arith, h))
one_number name (u ∷ []) t n h is e = ap (λ s. is_process_by name (Node forms.Event (MoreSyntax s NoSyntax))) (ap shape (sym is) ∙ e)
one_number name (u ∷ v ∷ us) t n h is e = absurd (omega (arith, h))

pub one_node : {A : Type 0} (name : Name → Bool) (ts : List (Tree A)) (t : Tree A) (f : Form) (us : Syntaxes) → length ts ≡ 1 → t ≡ get_or ts 0 t → shape t ≡ Node f us → is_process_by name (Node forms.Event (syntaxes (shapes ts))) ≡ false
unfolding is_process_by is_process_form
one_node name [] t f us h is e = absurd (omega (arith, h))
one_node name (u ∷ []) t f us h is e = ap (λ s. is_process_by name (Node forms.Event (MoreSyntax s NoSyntax))) (ap shape (sym is) ∙ e)
one_node name (u ∷ v ∷ vs) t f us h is e = absurd (omega (arith, h))

pub not_one : {A : Type 0} (name : Name → Bool) (ts : List (Tree A)) → (length ts ≢ 1) → is_process_by name (Node forms.Event (syntaxes (shapes ts))) ≡ false
unfolding is_process_by is_process_form
not_one name [] n = refl
not_one name (u ∷ []) n = absurd (n refl)
not_one name (u ∷ v ∷ us) n = by (shape u)
  where
    by : (s : Syntax) → is_process_by name (Node forms.Event (MoreSyntax s (MoreSyntax (shape v) (syntaxes (shapes us))))) ≡ false
    by (Called m) = refl
    by (Numeral m) = refl
    by (Node f ws) = refl

-- ---- a phrase

-- a phrase in brackets
pub inside : {A : Type 0} (name : Name → Bool) (tree : Tree A) (line : Position) (v : Vec (Tree A) A) (ts : List (Tree A)) (t : Tree A) (b : Bool) → tree ≡ TreeNode line forms.Brackets v → ts ≡ v.items → length ts ≡ 1 → t ≡ get_or ts 0 t → is_process_by name (shape t) ≡ b → is_process_by name (shape tree) ≡ b
unfolding is_process_by
inside {A = A} name tree line v ts t b h is one at e = ap (is_process_by name) (node_is tree line forms.Brackets v ts h is) ∙ by ts one at
  where
    by : (us : List (Tree A)) → length us ≡ 1 → t ≡ get_or us 0 t → is_process_by name (Node forms.Brackets (syntaxes (shapes us))) ≡ b
    by [] n k = absurd (omega (arith, n))
    by (u ∷ []) n k = ap (λ s. is_process_by name (shape s)) (sym k) ∙ e
    by (u ∷ w ∷ us) n k = absurd (omega (arith, n))

pub not_inside : {A : Type 0} (name : Name → Bool) (tree : Tree A) (line : Position) (v : Vec (Tree A) A) (ts : List (Tree A)) → tree ≡ TreeNode line forms.Brackets v → ts ≡ v.items → (length ts ≢ 1) → is_process_by name (shape tree) ≡ false
unfolding is_process_by is_process_form
not_inside {A = A} name tree line v ts h is n = ap (is_process_by name) (node_is tree line forms.Brackets v ts h is) ∙ by ts n
  where
    by : (us : List (Tree A)) → (length us ≢ 1) → is_process_by name (Node forms.Brackets (syntaxes (shapes us))) ≡ false
    by [] n = refl
    by (u ∷ []) n = absurd (n refl)
    by (u ∷ w ∷ us) n = refl

pub by_event : {A : Type 0} (name : Name → Bool) (tree : Tree A) (line : Position) (v : Vec (Tree A) A) (ts : List (Tree A)) (b : Bool) → tree ≡ TreeNode line forms.Event v → ts ≡ v.items → is_process_by name (Node forms.Event (syntaxes (shapes ts))) ≡ b → is_process_by name (shape tree) ≡ b
by_event name tree line v ts b h is e = ap (is_process_by name) (node_is tree line forms.Event v ts h is) ∙ e

-- what a form says, where it isn't one of those above
form_says : (name : Name → Bool) (f : Form) (us : Syntaxes) → (f ≡ forms.Brackets → ⊥) → (f ≡ forms.Event → ⊥) → is_process_by name (Node f us) ≡ is_process_form f
unfolding is_process_by
form_says name forms.Brackets us n m = absurd (n refl)
form_says name forms.Event us n m = absurd (m refl)
form_says name f us n m = refl

pub by_form : {A : Type 0} (name : Name → Bool) (tree : Tree A) (line : Position) (form : Form) (v : Vec (Tree A) A) (b : Bool) → tree ≡ TreeNode line form v → (form ≡ forms.Brackets → ⊥) → (form ≡ forms.Event → ⊥) → b ≡ is_process_form form → is_process_by name (shape tree) ≡ b
by_form name tree line form v b h n m e = ap (is_process_by name) (node_is tree line form v v.items h refl) ∙ form_says name form (syntaxes (shapes v.items)) n m ∙ sym e

-- ---- names that lead to names

pub undeclared : (es : List Entry) (n : Name) → meaning es n ≡ None → false ≡ is_process es n
unfolding is_process_in is_process_meaning
undeclared es n h = sym (ap (is_process_meaning (is_process_in es (length es))) h)

pub follows_none : (es : List Entry) (first : Name) → Follows es first 0 first
follows_none es first = (suc (length es), omega arith, refl)

pub follows_more : (es : List Entry) (first : Name) (i : ℕ) (n m : Name) → i < length es → Follows es first i n → ((k : ℕ) → is_process_in es (suc k) n ≡ is_process_in es k m) → Follows es first (i + 1) m
follows_more es first i n m h (zero, e, p) s = absurd (omega (arith, h, e))
follows_more es first i n m h (suc k, e, p) s = (k, omega (arith, e), sym (s k) ∙ p)

pub follows_known : (es : List Entry) (first : Name) (i : ℕ) (n : Name) (b : Bool) → i ≤ length es → Follows es first i n → ((k : ℕ) → is_process_in es (suc k) n ≡ b) → b ≡ is_process es first
follows_known es first i n b h (zero, e, p) s = absurd (omega (arith, h, e))
follows_known es first i n b h (suc k, e, p) s = sym (s k) ∙ p

-- after as many names as there are, and one more
pub follows_all : (es : List Entry) (first : Name) (i : ℕ) (n m : Name) → i ≡ length es → Follows es first i n → ((k : ℕ) → is_process_in es (suc k) n ≡ is_process_in es k m) → true ≡ is_process es first
unfolding is_process_in
follows_all es first i n m h (zero, e, p) s = absurd (omega (arith, h, e))
follows_all es first i n m h (suc k, e, p) s =
    let none : k ≡ 0 = omega (arith, h, e) in
    sym (ap (λ j. is_process_in es j m) none) ∙ sym (s k) ∙ p
