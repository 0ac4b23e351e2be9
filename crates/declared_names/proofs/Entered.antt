-- What is entered one by one is what is declared, if no name is there twice.
use Rattle.std.proofs.Common.{◌≡◌, List, [], ◌∷◌, ◌++◌, map, Bool, true, false, not, ◌&&◌, ◌||◌, cond, Option, Some, None, refl, sym, ap, ◌∙◌, append_assoc, append-nil}
use Rattle.std.specs.List.{list_any}
use Rattle.std.specs.Cmp.Lexicographic.{bytes_decides}
use Rattle.syntax.specs.declared.form.Form.{Form}
use Rattle.syntax.specs.declared.form.Form.TheVariants as forms
use Rattle.syntax.specs.Grammar.{Syntax, Called, Numeral, Node, Syntaxes, NoSyntax, MoreSyntax}
use Rattle.values.specs.Values.{◌>>=◌, Name}
use Rattle.values.specs.Names.{Meaning, channel, datatype, constant_name, definition, parametric, Entry, same_name, names_of, listed_names, field_sets, entries_of, declared_by, declared_by_all, are_distinct}
use Rattle.declared_names.specs.Steps.{steps, only_of, two_of, three_of}
use Rattle.declared_names.specs.Entering.{has_name, put, put_name, add_name, list_parts, put_channels, put_fielded, put_datatype, put_typed, put_defined, put_parametric, put_form, put_declaration}
use Rattle.tokens.proofs.Tables.{some_of}

-- one after the other
unfoldable pub put_all : List Entry → List Entry → Option (List Entry)
put_all es [] = Some es
put_all es (e ∷ fs) = put es e >>= λ gs. put_all gs fs

-- nothing is entered where the second step fails
bind_none : {X Y : Type 0} (o : Option X) → (o >>= λ x. let n : Option Y = None in n) ≡ None
bind_none None = refl
bind_none (Some x) = refl

-- ---- lists of names

one_more : (m : Meaning) (es : List Entry) (n : Name) (o : Option (List Name)) → (put es (n, m) >>= λ fs. o >>= λ ns. put_all fs (map (λ n. (n, m)) ns)) ≡ ((o >>= λ ns. some_of (n ∷ ns)) >>= λ ns. put_all es (map (λ n. (n, m)) ns))
unfolding put_all
one_more m es n None = bind_none (put es (n, m))
one_more m es n (Some ns) = refl

pub named : (m : Meaning) (es : List Entry) (ts : Syntaxes) → steps (put_name m) es ts ≡ (names_of ts >>= λ ns. put_all es (map (λ n. (n, m)) ns))
unfolding steps put_name names_of put_all
named m es NoSyntax = refl
named m es (MoreSyntax (Called n) ts) = by (put es (n, m)) (λ fs. named m fs ts) ∙ one_more m es n (names_of ts)
  where
    by : (o : Option (List Entry)) → ((fs : List Entry) → steps (put_name m) fs ts ≡ (names_of ts >>= λ ns. put_all fs (map (λ n. (n, m)) ns))) → (o >>= λ fs. steps (put_name m) fs ts) ≡ (o >>= λ fs. names_of ts >>= λ ns. put_all fs (map (λ n. (n, m)) ns))
    by None rec = refl
    by (Some fs) rec = rec fs
named m es (MoreSyntax (Numeral n) ts) = refl
named m es (MoreSyntax (Node f us) ts) = refl

pub added : (front : List Name) (ts : Syntaxes) → steps add_name front ts ≡ (names_of ts >>= λ ns. Some (front ++ ns))
unfolding steps add_name names_of
added front NoSyntax = ap some_of (sym (append-nil front))
added front (MoreSyntax (Called n) ts) = added (front ++ n ∷ []) ts ∙ by (names_of ts)
  where
    by : (o : Option (List Name)) → (o >>= λ ns. some_of ((front ++ n ∷ []) ++ ns)) ≡ ((o >>= λ ns. some_of (n ∷ ns)) >>= λ ns. Some (front ++ ns))
    by None = refl
    by (Some ns) = ap some_of (append_assoc front (n ∷ []) ns)
added front (MoreSyntax (Numeral n) ts) = refl
added front (MoreSyntax (Node f us) ts) = refl

pub parts_names : (t : Syntax) → listed_names t ≡ (list_parts t >>= names_of)
unfolding listed_names list_parts
parts_names (Called n) = refl
parts_names (Numeral n) = refl
parts_names (Node forms.Names ts) = refl
parts_names (Node forms.Constants ts) = refl
parts_names (Node f ts) = refl

-- ---- forms

channels : (es : List Entry) (t : Syntax) (sets : Syntaxes) → put_channels es t sets ≡ (listed_names t >>= λ ns. put_all es (map (λ n. (n, channel sets)) ns))
unfolding put_channels
channels es t sets = by (list_parts t) ∙ ap (λ o. o >>= λ ns. put_all es (map (λ n. (n, channel sets)) ns)) (sym (parts_names t))
  where
    by : (o : Option Syntaxes) → (o >>= λ ts. steps (put_name (channel sets)) es ts) ≡ ((o >>= names_of) >>= λ ns. put_all es (map (λ n. (n, channel sets)) ns))
    by None = refl
    by (Some ts) = named (channel sets) es ts

datatypes : (es : List Entry) (n : Name) (ts : Syntaxes) → put_datatype es n ts ≡ (names_of ts >>= λ ns. put_all es ((n, datatype ns) ∷ map (λ c. (c, constant_name)) ns))
unfolding put_datatype put_all
datatypes es n ts = ap (λ o. o >>= λ ns. put es (n, datatype ns) >>= λ fs. steps (put_name constant_name) fs ts) (added [] ts) ∙ by (names_of ts) refl
  where
    inner : (ns : List Name) → names_of ts ≡ Some ns → (o : Option (List Entry)) → (o >>= λ fs. steps (put_name constant_name) fs ts) ≡ (o >>= λ gs. put_all gs (map (λ c. (c, constant_name)) ns))
    inner ns h None = refl
    inner ns h (Some fs) = named constant_name fs ts ∙ ap (λ o. o >>= λ ns. put_all fs (map (λ c. (c, constant_name)) ns)) h

    by : (o : Option (List Name)) → names_of ts ≡ o → ((o >>= λ ns. some_of ([] ++ ns)) >>= λ ns. put es (n, datatype ns) >>= λ fs. steps (put_name constant_name) fs ts) ≡ (o >>= λ ns. put es (n, datatype ns) >>= λ gs. put_all gs (map (λ c. (c, constant_name)) ns))
    by None h = refl
    by (Some ns) h = inner ns h (put es (n, datatype ns))

last_put : (o : Option (List Entry)) → o ≡ (o >>= λ gs. some_of gs)
last_put None = refl
last_put (Some gs) = refl

-- a definition with parameters in such a list
with_listed : (es : List Entry) (n : Name) (u : Syntax) (ts : Syntaxes) → (steps add_name [] ts >>= λ xs. put es (n, parametric xs u)) ≡ ((names_of ts >>= λ xs. some_of ((n, parametric xs u) ∷ [])) >>= put_all es)
unfolding put_all
with_listed es n u ts = ap (λ o. o >>= λ xs. put es (n, parametric xs u)) (added [] ts) ∙ by (names_of ts)
  where
    by : (o : Option (List Name)) → ((o >>= λ xs. some_of ([] ++ xs)) >>= λ xs. put es (n, parametric xs u)) ≡ ((o >>= λ xs. some_of ((n, parametric xs u) ∷ [])) >>= put_all es)
    by None = refl
    by (Some xs) = last_put (put es (n, parametric xs u))

with_parameters : (es : List Entry) (n : Name) (t u : Syntax) → put_parametric es (Called n) t u ≡ ((listed_names t >>= λ xs. some_of ((n, parametric xs u) ∷ [])) >>= put_all es)
unfolding put_parametric
with_parameters es n t u = by (list_parts t) ∙ ap (λ o. (o >>= λ xs. some_of ((n, parametric xs u) ∷ [])) >>= put_all es) (sym (parts_names t))
  where
    by : (o : Option Syntaxes) → (o >>= λ ts. steps add_name [] ts >>= λ xs. put es (n, parametric xs u)) ≡ (((o >>= names_of) >>= λ xs. some_of ((n, parametric xs u) ∷ [])) >>= put_all es)
    by None = refl
    by (Some ts) = with_listed es n u ts

fielded : (es : List Entry) (t u : Syntax) → put_fielded es t u ≡ ((listed_names t >>= λ ns. field_sets u >>= λ sets. some_of (map (λ n. (n, channel sets)) ns)) >>= put_all es)
unfolding put_fielded
fielded es t u = by (field_sets u) (listed_names t) (channels es t)
  where
    by : (o : Option Syntaxes) (p : Option (List Name)) → ((sets : Syntaxes) → put_channels es t sets ≡ (p >>= λ ns. put_all es (map (λ n. (n, channel sets)) ns))) → (o >>= λ sets. put_channels es t sets) ≡ ((p >>= λ ns. o >>= λ sets. some_of (map (λ n. (n, channel sets)) ns)) >>= put_all es)
    by None None h = refl
    by None (Some ns) h = refl
    by (Some sets) None h = h sets
    by (Some sets) (Some ns) h = h sets

pub formed : (es : List Entry) (f : Form) (ts : Syntaxes) → put_form es f ts ≡ (entries_of f ts >>= put_all es)
unfolding put_form entries_of put_typed put_defined put_parametric put_all only_of two_of three_of
formed es forms.Channels (MoreSyntax t NoSyntax) = channels es t NoSyntax ∙ by (listed_names t)
  where
    by : (o : Option (List Name)) → (o >>= λ ns. put_all es (map (λ n. (n, channel NoSyntax)) ns)) ≡ ((o >>= λ ns. some_of (map (λ n. (n, channel NoSyntax)) ns)) >>= put_all es)
    by None = refl
    by (Some ns) = refl
formed es forms.ChannelsWithFields (MoreSyntax t (MoreSyntax u NoSyntax)) = fielded es t u
formed es forms.Datatype (MoreSyntax (Called n) (MoreSyntax t NoSyntax)) = by (list_parts t) ∙ ap (λ o. (o >>= λ ns. some_of ((n, datatype ns) ∷ map (λ c. (c, constant_name)) ns)) >>= put_all es) (sym (parts_names t))
  where
    inner : (o : Option (List Name)) → (o >>= λ ns. put_all es ((n, datatype ns) ∷ map (λ c. (c, constant_name)) ns)) ≡ ((o >>= λ ns. some_of ((n, datatype ns) ∷ map (λ c. (c, constant_name)) ns)) >>= put_all es)
    inner None = refl
    inner (Some ns) = refl

    by : (o : Option Syntaxes) → (o >>= λ ts. put_datatype es n ts) ≡ (((o >>= names_of) >>= λ ns. some_of ((n, datatype ns) ∷ map (λ c. (c, constant_name)) ns)) >>= put_all es)
    by None = refl
    by (Some ts) = datatypes es n ts ∙ inner (names_of ts)
formed es forms.Definition (MoreSyntax (Called n) (MoreSyntax t NoSyntax)) = last_put (put es (n, definition t))
formed es forms.DefinitionWithParameters (MoreSyntax (Called n) (MoreSyntax t (MoreSyntax u NoSyntax))) = with_parameters es n t u
formed es forms.Datatype (MoreSyntax (Numeral n) NoSyntax) = refl
formed es forms.Datatype (MoreSyntax (Numeral n) (MoreSyntax u NoSyntax)) = refl
formed es forms.Datatype (MoreSyntax (Numeral n) (MoreSyntax u (MoreSyntax v vs))) = refl
formed es forms.Datatype (MoreSyntax (Node g us) NoSyntax) = refl
formed es forms.Datatype (MoreSyntax (Node g us) (MoreSyntax u NoSyntax)) = refl
formed es forms.Datatype (MoreSyntax (Node g us) (MoreSyntax u (MoreSyntax v vs))) = refl
formed es forms.Definition (MoreSyntax (Numeral n) NoSyntax) = refl
formed es forms.Definition (MoreSyntax (Numeral n) (MoreSyntax u NoSyntax)) = refl
formed es forms.Definition (MoreSyntax (Numeral n) (MoreSyntax u (MoreSyntax v vs))) = refl
formed es forms.Definition (MoreSyntax (Node g us) NoSyntax) = refl
formed es forms.Definition (MoreSyntax (Node g us) (MoreSyntax u NoSyntax)) = refl
formed es forms.Definition (MoreSyntax (Node g us) (MoreSyntax u (MoreSyntax v vs))) = refl
formed es forms.DefinitionWithParameters (MoreSyntax (Numeral n) NoSyntax) = refl
formed es forms.DefinitionWithParameters (MoreSyntax (Numeral n) (MoreSyntax t NoSyntax)) = refl
formed es forms.DefinitionWithParameters (MoreSyntax (Numeral n) (MoreSyntax t (MoreSyntax u NoSyntax))) = refl
formed es forms.DefinitionWithParameters (MoreSyntax (Numeral n) (MoreSyntax t (MoreSyntax u (MoreSyntax v vs)))) = refl
formed es forms.DefinitionWithParameters (MoreSyntax (Node g us) NoSyntax) = refl
formed es forms.DefinitionWithParameters (MoreSyntax (Node g us) (MoreSyntax t NoSyntax)) = refl
formed es forms.DefinitionWithParameters (MoreSyntax (Node g us) (MoreSyntax t (MoreSyntax u NoSyntax))) = refl
formed es forms.DefinitionWithParameters (MoreSyntax (Node g us) (MoreSyntax t (MoreSyntax u (MoreSyntax v vs)))) = refl
formed es f ts = refl

-- ---- lists of entries

all_then : (es fs gs : List Entry) → put_all es (fs ++ gs) ≡ (put_all es fs >>= λ hs. put_all hs gs)
unfolding put_all
all_then es [] gs = refl
all_then es (f ∷ fs) gs = by (put es f) (λ hs. all_then hs fs gs)
  where
    by : (o : Option (List Entry)) → ((hs : List Entry) → put_all hs (fs ++ gs) ≡ (put_all hs fs >>= λ hs. put_all hs gs)) → (o >>= λ hs. put_all hs (fs ++ gs)) ≡ ((o >>= λ hs. put_all hs fs) >>= λ hs. put_all hs gs)
    by None rec = refl
    by (Some hs) rec = rec hs

declaration : (es : List Entry) (t : Syntax) → put_declaration es t ≡ (declared_by t >>= put_all es)
unfolding put_declaration declared_by
declaration es (Called n) = refl
declaration es (Numeral n) = refl
declaration es (Node f ts) = formed es f ts

pub declarations : (es : List Entry) (ts : Syntaxes) → steps put_declaration es ts ≡ (declared_by_all ts >>= put_all es)
unfolding steps declared_by_all put_all
declarations es NoSyntax = refl
declarations es (MoreSyntax t ts) = ap (λ o. o >>= λ fs. steps put_declaration fs ts) (declaration es t) ∙ by (declared_by t) (λ hs. declarations hs ts)
  where
    last : (o : Option (List Entry)) (fs : List Entry) (p : Option (List Entry)) → put_all es fs ≡ p → (p >>= λ hs. o >>= put_all hs) ≡ ((o >>= λ gs. some_of (fs ++ gs)) >>= put_all es)
    last None fs p h = bind_none p
    last (Some gs) fs p h = sym (all_then es fs gs ∙ ap (λ o. o >>= λ hs. put_all hs gs) h)

    inner : (p : Option (List Entry)) → ((hs : List Entry) → steps put_declaration hs ts ≡ (declared_by_all ts >>= put_all hs)) → (p >>= λ hs. steps put_declaration hs ts) ≡ (p >>= λ hs. declared_by_all ts >>= put_all hs)
    inner None rec = refl
    inner (Some hs) rec = rec hs

    by : (o : Option (List Entry)) → ((hs : List Entry) → steps put_declaration hs ts ≡ (declared_by_all ts >>= put_all hs)) → ((o >>= put_all es) >>= λ fs. steps put_declaration fs ts) ≡ ((o >>= λ fs. declared_by_all ts >>= λ gs. some_of (fs ++ gs)) >>= put_all es)
    by None rec = refl
    by (Some fs) rec = inner (put_all es fs) rec ∙ last (declared_by_all ts) fs (put_all es fs) refl

-- ---- no name twice

-- none of these is among the names
abbrev pub fresh : List Entry → List Entry → Bool
fresh es fs = not (list_any (λ f. has_name es f.0) fs)

-- two names are the same in both orders
pub same_sym : (m n : Name) → same_name m n ≡ same_name n m
same_sym m n = by (same_name m n) (same_name n m) refl refl
  where
    by : (b c : Bool) → same_name m n ≡ b → same_name n m ≡ c → b ≡ c
    by true true p q = refl
    by false false p q = refl
    by true false p q = sym ((bytes_decides n m).1 (sym ((bytes_decides m n).0 p))) ∙ q
    by false true p q = sym p ∙ (bytes_decides m n).1 (sym ((bytes_decides n m).0 q))

has_last : (es : List Entry) (e : Entry) (n : Name) → has_name (es ++ e ∷ []) n ≡ (has_name es n || same_name e.0 n)
has_last [] e n = by (same_name n e.0) ∙ same_sym n e.0
  where
    by : (b : Bool) → (b || false) ≡ b
    by true = refl
    by false = refl
has_last (f ∷ fs) e n = by (same_name n f.0) (has_last fs e n)
  where
    by : (b : Bool) → has_name (fs ++ e ∷ []) n ≡ (has_name fs n || same_name e.0 n) → (b || has_name (fs ++ e ∷ []) n) ≡ ((b || has_name fs n) || same_name e.0 n)
    by true h = refl
    by false h = h

fresh_more : (es : List Entry) (e : Entry) (fs : List Entry) → fresh (es ++ e ∷ []) fs ≡ (fresh es fs && not (list_any (λ f. same_name e.0 f.0) fs))
fresh_more es e [] = refl
fresh_more es e (f ∷ fs) =
    ap (λ b. not (b || list_any (λ g. has_name (es ++ e ∷ []) g.0) fs)) (has_last es e f.0)
    ∙ by (has_name es f.0) (same_name e.0 f.0) (list_any (λ g. has_name (es ++ e ∷ []) g.0) fs) (list_any (λ g. has_name es g.0) fs) (list_any (λ g. same_name e.0 g.0) fs) (fresh_more es e fs)
  where
    by : (b c d x y : Bool) → not d ≡ (not x && not y) → not ((b || c) || d) ≡ (not (b || x) && not (c || y))
    by true c d x y h = refl
    by false false d x y h = h
    by false true d true y h = refl
    by false true d false y h = refl

pub all_put : (es fs : List Entry) → put_all es fs ≡ cond (fresh es fs && are_distinct fs) (Some (es ++ fs)) None
unfolding put_all put are_distinct
all_put es [] = ap some_of (sym (append-nil es))
all_put es (e ∷ fs) = by (has_name es e.0) (list_any (λ f. has_name es f.0) fs) (list_any (λ f. same_name e.0 f.0) fs) (are_distinct fs) (fresh (es ++ e ∷ []) fs) (fresh_more es e fs) (all_put (es ++ e ∷ []) fs)
  where
    by : (b x y d g : Bool) → g ≡ (not x && not y) → put_all (es ++ e ∷ []) fs ≡ cond (g && d) (some_of ((es ++ e ∷ []) ++ fs)) None
        → (cond b None (some_of (es ++ e ∷ [])) >>= λ gs. put_all gs fs) ≡ cond (not (b || x) && (not y && d)) (some_of (es ++ e ∷ fs)) None
    by true x y d g h k = refl
    by false true y d g h k = k ∙ ap (λ b. cond (b && d) (some_of ((es ++ e ∷ []) ++ fs)) None) h
    by false false true d g h k = k ∙ ap (λ b. cond (b && d) (some_of ((es ++ e ∷ []) ++ fs)) None) h
    by false false false d g h k = k ∙ ap (λ b. cond (b && d) (some_of ((es ++ e ∷ []) ++ fs)) None) h ∙ ap (λ xs. cond d (some_of xs) None) (append_assoc es (e ∷ []) fs)

-- no name is among none
fresh_none : (fs : List Entry) → fresh [] fs ≡ true
fresh_none [] = refl
fresh_none (f ∷ fs) = fresh_none fs

-- what is entered is what is declared, if no name is there twice
pub entered : (ts : Syntaxes) → steps put_declaration [] ts ≡ (declared_by_all ts >>= λ es. cond (are_distinct es) (Some es) None)
entered ts = declarations [] ts ∙ by (declared_by_all ts)
  where
    by : (o : Option (List Entry)) → (o >>= put_all []) ≡ (o >>= λ es. cond (are_distinct es) (some_of es) None)
    by None = refl
    by (Some es) = all_put [] es ∙ ap (λ b. cond (b && are_distinct es) (some_of es) None) (fresh_none es)
