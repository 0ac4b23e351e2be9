-- What distinct names are declared as: constants, channels and what they stand for.
use Rattle.std.proofs.Common.{◌≡◌, ℕ, zero, suc, List, [], ◌∷◌, ◌++◌, map, Bool, true, false, not, ◌&&◌, ◌||◌, ◌⊎◌, cond, Some, inl, inr, refl, sym, ap, subst, ◌∙◌}
use Rattle.std.specs.List.{list_any}
use Rattle.std.specs.Cmp.Lexicographic.{bytes_decides}
use Rattle.alphabet.specs.Channels.{constant}
use Rattle.alphabet.specs.Names.{is_name}
use Rattle.syntax.specs.declared.form.Form.{Form}
use Rattle.syntax.specs.declared.form.Form.TheVariants as forms
use Rattle.syntax.specs.Grammar.{Syntax, Called, Numeral, Node, Syntaxes, NoSyntax, MoreSyntax}
use Rattle.values.specs.Values.{◌>>=◌, Name}
use Rattle.values.specs.Worths.{Worth, Known}
use Rattle.values.specs.Names.{Meaning, channel, datatype, constant_name, definition, parametric, is_constant, Entry, same_name, names_of, listed_names, field_sets, entries_of, declared_by, declared_by_all, meaning, are_distinct, worth_of, known_in, Stands}
use Rattle.declared_names.specs.LanguageNames.{has_names, have_names}
use Rattle.declarations.specs.Passing.{all_pass, pass}
use Rattle.declarations.specs.Sigma.{is_declared_constant, AreDeclared}
use Rattle.declared_names.proofs.Chains.{bind_some, some_same, left, right, both}
use Rattle.declarations.proofs.Constants.{no_some, worth_pass, set_pass}

-- ---- entries among others

abbrev pub In : Entry → List Entry → Type 0
In e [] = ⊥
In e (f ∷ fs) = (f ≡ e) ⊎ In e fs

pub in_front : (e : Entry) (es fs : List Entry) → In e es → In e (es ++ fs)
in_front e [] fs h = absurd h
in_front e (f ∷ es) fs h = elim h [ inl k ↦ inl k | inr k ↦ inr (in_front e es fs k) ]

pub in_back : (e : Entry) (es fs : List Entry) → In e fs → In e (es ++ fs)
in_back e [] fs h = h
in_back e (f ∷ es) fs h = inr (in_back e es fs h)

pub in_either : (e : Entry) (es fs : List Entry) → In e (es ++ fs) → In e es ⊎ In e fs
in_either e [] fs h = inr h
in_either e (f ∷ es) fs h = elim h [ inl k ↦ inl (inl k) | inr k ↦ (elim (in_either e es fs k) [ inl l ↦ inl (inr l) | inr l ↦ inr l ]) ]

pub any_of : (n : Name) (e : Entry) (es : List Entry) → In e es → same_name n e.0 ≡ true → list_any (λ f. same_name n f.0) es ≡ true
any_of n e [] h k = absurd h
any_of n e (f ∷ es) h k = elim h [ inl l ↦ first (same_name n f.0) (list_any (λ f. same_name n f.0) es) (ap (λ (x : Entry). same_name n x.0) l ∙ k) | inr l ↦ second (same_name n f.0) (list_any (λ f. same_name n f.0) es) (any_of n e es l k) ]
  where
    first : (b c : Bool) → b ≡ true → (b || c) ≡ true
    first b c h = ap (λ x. x || c) h

    second : (b c : Bool) → c ≡ true → (b || c) ≡ true
    second true c h = refl
    second false c h = h

-- an entry says what its name is declared as
pub means : (es : List Entry) (e : Entry) → are_distinct es ≡ true → In e es → meaning es e.0 ≡ Some e.1
unfolding are_distinct meaning
means [] e h k = absurd k
means (f ∷ es) e h k = elim k [
  | inl l ↦ subst (λ (x : Entry). cond (same_name x.0 f.0) (Some f.1) (meaning es x.0) ≡ Some x.1) l (ap (λ b. cond b (Some f.1) (meaning es f.0)) ((bytes_decides f.0 f.0).1 refl))
  | inr l ↦ by l (same_name e.0 f.0) refl (means es e (right (not (list_any (λ g. same_name f.0 g.0) es)) (are_distinct es) h) l)
]
  where
    no : (b : Bool) → not b ≡ true → b ≡ true → ⊥
    no true p q = cc
    no false p q = cc

    by : In e es → (b : Bool) → same_name e.0 f.0 ≡ b → meaning es e.0 ≡ Some e.1 → cond b (Some f.1) (meaning es e.0) ≡ Some e.1
    by l true p ih = absurd (no (list_any (λ g. same_name f.0 g.0) es) (left (not (list_any (λ g. same_name f.0 g.0) es)) (are_distinct es) h) (any_of f.0 e es l ((bytes_decides f.0 e.0).1 (sym ((bytes_decides e.0 f.0).0 p)))))
    by l false p ih = ih

-- what a name is declared as, an entry says
pub meant : (es : List Entry) (n : Name) (m : Meaning) → meaning es n ≡ Some m → In (n, m) es
unfolding meaning
meant [] n m h = absurd cc
meant (f ∷ es) n m h = by (same_name n f.0) refl h (λ q. meant es n m q)
  where
    by : (b : Bool) → same_name n f.0 ≡ b → cond b (Some f.1) (meaning es n) ≡ Some m → (meaning es n ≡ Some m → In (n, m) es) → (f ≡ (n, m)) ⊎ In (n, m) es
    by true p q rec = inl (λ i. (sym ((bytes_decides n f.0).0 p) i, some_same q i))
    by false p q rec = inr (rec q)

-- ---- constants of datatypes are declared

abbrev pub AllIn : List Name → List Entry → Type 0
AllIn [] es = Unit {0}
AllIn (c ∷ cs) es = In (c, constant_name) es × AllIn cs es

all_front : (cs : List Name) (es fs : List Entry) → AllIn cs es → AllIn cs (es ++ fs)
all_front [] es fs h = tt
all_front (c ∷ cs) es fs h = (in_front (c, constant_name) es fs h.0, all_front cs es fs h.1)

all_back : (cs : List Name) (es fs : List Entry) → AllIn cs fs → AllIn cs (es ++ fs)
all_back [] es fs h = tt
all_back (c ∷ cs) es fs h = (in_back (c, constant_name) es fs h.0, all_back cs es fs h.1)

all_later : (cs : List Name) (e : Entry) (es : List Entry) → AllIn cs es → AllIn cs (e ∷ es)
all_later [] e es h = tt
all_later (c ∷ cs) e es h = (inr h.0, all_later cs e es h.1)

all_listed : (cs : List Name) → AllIn cs (map (λ c. (c, constant_name)) cs)
all_listed [] = tt
all_listed (c ∷ cs) = (inl refl, all_later cs (c, constant_name) (map (λ c. (c, constant_name)) cs) (all_listed cs))

-- no datatype among entries of one kind
no_datatype : (m : Meaning) (ns : List Name) (n : Name) (cs : List Name) → ((x : Meaning) → x ≡ m → x ≡ datatype cs → ⊥) → In (n, datatype cs) (map (λ c. (c, m)) ns) → ⊥
no_datatype m [] n cs h k = k
no_datatype m (x ∷ ns) n cs h k = elim k [ inl l ↦ h m refl (ap (λ (e : Entry). e.1) l) | inr l ↦ no_datatype m ns n cs h l ]

form_closed : (f : Form) (ts : Syntaxes) (es : List Entry) (n : Name) (cs : List Name) → entries_of f ts ≡ Some es → In (n, datatype cs) es → AllIn cs es
unfolding entries_of
form_closed forms.Channels (MoreSyntax t NoSyntax) es n cs h k =
    let (ns, a, b) = bind_some (listed_names t) (λ ns. Some (map (λ n. (n, channel NoSyntax)) ns)) es h in
    absurd (no_datatype (channel NoSyntax) ns n cs (λ x p q. let e : channel NoSyntax ≡ datatype cs = sym p ∙ q in cc) (subst (In (n, datatype cs)) (sym (some_same b)) k))
form_closed forms.ChannelsWithFields (MoreSyntax t (MoreSyntax u NoSyntax)) es n cs h k =
    let (ns, a, b) = bind_some (listed_names t) (λ ns. field_sets u >>= λ sets. Some (map (λ n. (n, channel sets)) ns)) es h in
    let (sets, c, d) = bind_some (field_sets u) (λ sets. Some (map (λ n. (n, channel sets)) ns)) es b in
    absurd (no_datatype (channel sets) ns n cs (λ x p q. let e : channel sets ≡ datatype cs = sym p ∙ q in cc) (subst (In (n, datatype cs)) (sym (some_same d)) k))
form_closed forms.Datatype (MoreSyntax (Called m) (MoreSyntax t NoSyntax)) es n cs h k =
    let (ns, a, b) = bind_some (listed_names t) (λ ns. Some ((m, datatype ns) ∷ map (λ c. (c, constant_name)) ns)) es h in
    subst (AllIn cs) (some_same b) (by ns (subst (In (n, datatype cs)) (sym (some_same b)) k))
  where
    name_list : Meaning → List Name
    name_list (datatype ns) = ns
    name_list (channel sets) = []
    name_list constant_name = []
    name_list (definition t) = []
    name_list (parametric xs t) = []

    by : (ns : List Name) → (let a : Entry = (m, datatype ns) in let b : Entry = (n, datatype cs) in a ≡ b) ⊎ In (n, datatype cs) (map (λ c. (c, constant_name)) ns) → AllIn cs ((m, datatype ns) ∷ map (λ c. (c, constant_name)) ns)
    by ns k = elim k [
      | inl l ↦ subst (λ xs. AllIn xs ((m, datatype ns) ∷ map (λ c. (c, constant_name)) ns)) (let e : datatype ns ≡ datatype cs = ap (λ (x : Entry). x.1) l in let f : ns ≡ cs = cc in f) (all_later ns (m, datatype ns) (map (λ c. (c, constant_name)) ns) (all_listed ns))
      | inr l ↦ absurd (no_datatype constant_name ns n cs (λ x p q. let e : constant_name ≡ datatype cs = sym p ∙ q in cc) l)
    ]
form_closed forms.Definition (MoreSyntax (Called m) (MoreSyntax t NoSyntax)) es n cs h k = by (subst (In (n, datatype cs)) (sym (some_same h)) k)
  where
    by : (let a : Entry = (m, definition t) in let b : Entry = (n, datatype cs) in a ≡ b) ⊎ ⊥ → AllIn cs es
    by k = elim k [ inl l ↦ absurd (let e : definition t ≡ datatype cs = ap (λ (x : Entry). x.1) l in cc) | inr l ↦ absurd l ]
form_closed forms.DefinitionWithParameters (MoreSyntax (Called m) (MoreSyntax t (MoreSyntax u NoSyntax))) es n cs h k =
    let (xs, a, b) = bind_some (listed_names t) (λ xs. Some ((m, parametric xs u) ∷ [])) es h in
    by xs (subst (In (n, datatype cs)) (sym (some_same b)) k)
  where
    by : (xs : List Name) → (let a : Entry = (m, parametric xs u) in let b : Entry = (n, datatype cs) in a ≡ b) ⊎ ⊥ → AllIn cs es
    by xs k = elim k [ inl l ↦ absurd (let e : parametric xs u ≡ datatype cs = ap (λ (x : Entry). x.1) l in cc) | inr l ↦ absurd l ]
form_closed f ts es n cs h k = absurd (no_some h)

by_closed : (t : Syntax) (es : List Entry) (n : Name) (cs : List Name) → declared_by t ≡ Some es → In (n, datatype cs) es → AllIn cs es
unfolding declared_by
by_closed (Called m) es n cs h k = absurd cc
by_closed (Numeral m) es n cs h k = absurd cc
by_closed (Node f ts) es n cs h k = form_closed f ts es n cs h k

pub closed : (ts : Syntaxes) (es : List Entry) (n : Name) (cs : List Name) → declared_by_all ts ≡ Some es → In (n, datatype cs) es → AllIn cs es
unfolding declared_by_all
closed NoSyntax es n cs h k = absurd (subst (In (n, datatype cs)) (sym (some_same h)) k)
closed (MoreSyntax t ts) es n cs h k =
    let (fs, a, b) = bind_some (declared_by t) (λ es. declared_by_all ts >>= λ fs. Some (es ++ fs)) es h in
    let (gs, c, d) = bind_some (declared_by_all ts) (λ gs. Some (fs ++ gs)) es b in
    subst (AllIn cs) (some_same d) (elim (in_either (n, datatype cs) fs gs (subst (In (n, datatype cs)) (sym (some_same d)) k)) [
      | inl l ↦ all_front cs fs gs (by_closed t fs n cs a l)
      | inr l ↦ all_back cs fs gs (closed ts gs n cs c l)
    ])

-- ---- declared names are names of the language

abbrev pub AreNamed : List Entry → Type 0
AreNamed [] = Unit {0}
AreNamed (e ∷ es) = (is_name e.0 ≡ true) × AreNamed es

both_named : (es fs : List Entry) → AreNamed es → AreNamed fs → AreNamed (es ++ fs)
both_named [] fs h k = k
both_named (e ∷ es) fs h k = (h.0, both_named es fs h.1 k)

pub in_named : (es : List Entry) (e : Entry) → AreNamed es → In e es → is_name e.0 ≡ true
in_named [] e h k = absurd k
in_named (f ∷ es) e h k = elim k [ inl l ↦ ap (λ (x : Entry). is_name x.0) (sym l) ∙ h.0 | inr l ↦ in_named es e h.1 l ]

names_named : (m : Meaning) (ts : Syntaxes) (ns : List Name) → names_of ts ≡ Some ns → have_names ts ≡ true → AreNamed (map (λ n. (n, m)) ns)
unfolding names_of have_names has_names
names_named m NoSyntax ns h k = subst (λ xs. AreNamed (map (λ n. (n, m)) xs)) (some_same h) tt
names_named m (MoreSyntax (Called n) ts) ns h k =
    let (ms, a, b) = bind_some (names_of ts) (λ ms. Some (n ∷ ms)) ns h in
    subst (λ xs. AreNamed (map (λ n. (n, m)) xs)) (some_same b) (left (is_name n) (have_names ts) k, names_named m ts ms a (right (is_name n) (have_names ts) k))
names_named m (MoreSyntax (Numeral n) ts) ns h k = absurd cc
names_named m (MoreSyntax (Node f us) ts) ns h k = absurd (no_some h)

listed_named : (m : Meaning) (t : Syntax) (ns : List Name) → listed_names t ≡ Some ns → has_names t ≡ true → AreNamed (map (λ n. (n, m)) ns)
unfolding listed_names has_names
listed_named m (Called n) ns h k = absurd cc
listed_named m (Numeral n) ns h k = absurd cc
listed_named m (Node forms.Names ts) ns h k = names_named m ts ns h k
listed_named m (Node forms.Constants ts) ns h k = names_named m ts ns h k
listed_named m (Node f ts) ns h k = absurd (no_some h)

form_named : (f : Form) (ts : Syntaxes) (es : List Entry) → entries_of f ts ≡ Some es → have_names ts ≡ true → AreNamed es
unfolding entries_of have_names has_names
form_named forms.Channels (MoreSyntax t NoSyntax) es h k =
    let (ns, a, b) = bind_some (listed_names t) (λ ns. Some (map (λ n. (n, channel NoSyntax)) ns)) es h in
    subst AreNamed (some_same b) (listed_named (channel NoSyntax) t ns a (left (has_names t) true k))
form_named forms.ChannelsWithFields (MoreSyntax t (MoreSyntax u NoSyntax)) es h k =
    let (ns, a, b) = bind_some (listed_names t) (λ ns. field_sets u >>= λ sets. Some (map (λ n. (n, channel sets)) ns)) es h in
    let (sets, c, d) = bind_some (field_sets u) (λ sets. Some (map (λ n. (n, channel sets)) ns)) es b in
    subst AreNamed (some_same d) (listed_named (channel sets) t ns a (left (has_names t) (has_names u && true) k))
form_named forms.Datatype (MoreSyntax (Called m) (MoreSyntax t NoSyntax)) es h k =
    let (ns, a, b) = bind_some (listed_names t) (λ ns. Some ((m, datatype ns) ∷ map (λ c. (c, constant_name)) ns)) es h in
    subst AreNamed (some_same b) (left (is_name m) (has_names t && true) k, listed_named constant_name t ns a (left (has_names t) true (right (is_name m) (has_names t && true) k)))
form_named forms.Definition (MoreSyntax (Called m) (MoreSyntax t NoSyntax)) es h k = subst AreNamed (some_same h) (left (is_name m) (has_names t && true) k, tt)
form_named forms.DefinitionWithParameters (MoreSyntax (Called m) (MoreSyntax t (MoreSyntax u NoSyntax))) es h k =
    let (xs, a, b) = bind_some (listed_names t) (λ xs. Some ((m, parametric xs u) ∷ [])) es h in
    subst AreNamed (some_same b) (left (is_name m) (has_names t && (has_names u && true)) k, tt)
form_named f ts es h k = absurd (no_some h)

pub named : (ts : Syntaxes) (es : List Entry) → declared_by_all ts ≡ Some es → have_names ts ≡ true → AreNamed es
unfolding declared_by_all declared_by have_names has_names
named NoSyntax es h k = subst AreNamed (some_same h) tt
named (MoreSyntax t ts) es h k =
    let (fs, a, b) = bind_some (declared_by t) (λ es. declared_by_all ts >>= λ fs. Some (es ++ fs)) es h in
    let (gs, c, d) = bind_some (declared_by_all ts) (λ gs. Some (fs ++ gs)) es b in
    subst AreNamed (some_same d) (both_named fs gs (one_named t fs a (left (has_names t) (have_names ts) k)) (named ts gs c (right (has_names t) (have_names ts) k)))
  where
    one_named : (t : Syntax) (fs : List Entry) → declared_by t ≡ Some fs → has_names t ≡ true → AreNamed fs
    one_named (Called n) fs h k = absurd cc
    one_named (Numeral n) fs h k = absurd cc
    one_named (Node f us) fs h k = form_named f us fs h k

-- ---- the test that parts constants from channels

all_constants : (es : List Entry) (cs : List Name) → are_distinct es ≡ true → AreNamed es → AllIn cs es → all_pass (is_declared_constant es) (map constant cs) ≡ true
unfolding is_constant
all_constants es [] h k l = refl
all_constants es (c ∷ cs) h k l =
    both (is_declared_constant es c) (all_pass (is_declared_constant es) (map constant cs))
    (both (is_constant (meaning es c)) (is_name c) (ap is_constant (means es (c, constant_name) h l.0)) (in_named es (c, constant_name) k l.0))
    (all_constants es cs h k l.1)

-- what names stand for has declared constants only
steps_pass : (ts : Syntaxes) (es : List Entry) → declared_by_all ts ≡ Some es → are_distinct es ≡ true → AreNamed es → (k : ℕ) (n : Name) (w : Worth) → known_in es k n ≡ Some w → pass (is_declared_constant es) w ≡ true
unfolding known_in worth_of is_constant
steps_pass ts es d h k zero n w e = absurd cc
steps_pass ts es d h k (suc j) n w e =
    let (m, a, b) = bind_some (meaning es n) (worth_of (known_in es j) n) w e in
    by m a b (steps_pass ts es d h k j)
  where
    by : (m : Meaning) → meaning es n ≡ Some m → worth_of (known_in es j) n m ≡ Some w → ((n : Name) (w : Worth) → known_in es j n ≡ Some w → pass (is_declared_constant es) w ≡ true) → pass (is_declared_constant es) w ≡ true
    by (channel sets) a b rec = absurd cc
    by (datatype cs) a b rec = ap (pass (is_declared_constant es)) (sym (some_same b)) ∙ set_pass (is_declared_constant es) (map constant cs) (all_constants es cs h k (closed ts es n cs d (meant es n (datatype cs) a)))
    by constant_name a b rec = ap (pass (is_declared_constant es)) (sym (some_same b)) ∙ both (is_constant (meaning es n)) (is_name n) (ap is_constant a) (in_named es (n, constant_name) k (meant es n constant_name a))
    by (definition t) a b rec = worth_pass (is_declared_constant es) (known_in es j) rec t w b
    by (parametric xs t) a b rec = absurd cc

-- what is declared is a whole
pub are_declared : (ts : Syntaxes) (es : List Entry) (known : Known) → declared_by_all ts ≡ Some es → are_distinct es ≡ true → have_names ts ≡ true → Stands es known → AreDeclared known es
are_declared ts es known d h k s =
    let names : AreNamed es = named ts es d k in
    record {
      named = λ n m e. in_named es (n, m) names (meant es n m e);
      once = h;
      constants = λ n w e. let r = (s n w).0 e in steps_pass ts es d h names r.0 n w r.1;
    }
