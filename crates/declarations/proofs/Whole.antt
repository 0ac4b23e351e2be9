-- What is found is what a script declares.
use Rattle.std.proofs.Common.{◌≡◌, ◌≤◌, List, [], Bool, true, false, cond, Option, Some, None, refl, sym, ap, subst, ◌∙◌, arith, append-nil}
use Rattle.std.proofs.lemmas.Bool.{ltb-true, ltb-false}
use Rattle.std.specs.Prelude.{nat_lt, Result, Ok, Err, IfOk}
use Rattle.std.specs.List.{list_all}
use Rattle.alphabet.specs.Channels.{Channel, names, event_count}
use Rattle.tokens.specs.declared.read_error.ReadError.{ReadError}
use Rattle.syntax.specs.declared.form.Form.TheVariants as forms
use Rattle.syntax.specs.Grammar.{Syntax, Called, Numeral, Node, Syntaxes}
use Rattle.values.specs.Values.{◌>>=◌, Name}
use Rattle.values.specs.Worths.{Worth, Known}
use Rattle.values.specs.Names.{Entry, declared, declared_by_all, are_distinct, have_parameters, Stands}
use Rattle.values.specs.Channels.{channels_of, Declares}
use Rattle.values.specs.View.{Fails, Gives}
use Rattle.declared_names.specs.LanguageNames.{has_names, have_names}
use Rattle.declared_names.specs.Entering.{script_parts, distinct_entries}
use Rattle.declarations.specs.Fitting.{fitting, fitting_entries}
use Rattle.declarations.specs.Sigma.{small, with_entries, entered, AreDeclared, Follows}
use Rattle.declared_names.proofs.Chains.{bind_some, some_same}
use Rattle.declared_names.proofs.Scripts.{parts_declared, parts_none}
use Rattle.syntax.proofs.Failing.{fails_none, fails_on}
use Rattle.declarations.proofs.Meanings.{are_declared}

-- ---- the declarations of a script

parts_named : (t : Syntax) (ts : Syntaxes) → script_parts t ≡ Some ts → has_names t ≡ true → have_names ts ≡ true
unfolding script_parts has_names
parts_named (Called n) ts h k = absurd cc
parts_named (Numeral n) ts h k = absurd cc
parts_named (Node forms.Script us) ts h k = ap have_names (sym (some_same h)) ∙ k
parts_named (Node f us) ts h k = absurd cc

-- ---- what is found

-- a chosen list of names is the one that is there
chosen : {A : Type 0} (x y : A) (b : Bool) → cond b (Some x) None ≡ Some y → (x ≡ y) × (b ≡ true)
chosen x y true h = (some_same h, refl)
chosen x y false h = absurd cc

-- the names are those that are declared, none twice, with parameters that are in order
record AreFitting (t : Syntax) (es : List Entry) : Type 0 where
  named : declared t ≡ Some es
  once : are_distinct es ≡ true
  parameters : list_all (λ e. have_parameters es e.1) es ≡ true

are_fitting : (t : Syntax) (es : List Entry) → fitting_entries t ≡ Some es → AreFitting t es
unfolding fitting_entries fitting distinct_entries
are_fitting t es h =
    let (fs, a, b) = bind_some (distinct_entries t) (λ es. fitting es) es h in
    let (gs, c, d) = bind_some (declared t) (λ es. cond (are_distinct es) (Some es) None) fs a in
    let fits = chosen fs es (list_all (λ e. have_parameters fs e.1) fs) b in
    let once = chosen gs fs (are_distinct gs) d in
    let same : gs ≡ es = once.0 ∙ fits.0 in
    record {
      named = c ∙ ap (λ xs. let o : Option (List Entry) = Some xs in o) same;
      once = ap are_distinct (sym same) ∙ once.1;
      parameters = ap (λ xs. list_all (λ e. have_parameters xs e.1) xs) (sym fits.0) ∙ fits.1;
    }

small_one : (known : Known) (es : List Entry) (cs : List Channel) → with_entries known [] es ≡ Some cs → (channels_of known es ≡ Some cs) × (event_count cs ≤ 256)
unfolding with_entries small
small_one known es cs h =
    let (ds, a, b) = bind_some (channels_of known es) (λ cs. cond (nat_lt 256 (event_count cs)) None (Some cs)) cs h in
    let r = by ds (nat_lt 256 (event_count ds)) refl b in
    (a ∙ ap (λ xs. let o : Option (List Channel) = Some xs in o) r.0, subst (λ xs. event_count xs ≤ 256) r.0 r.1)
  where
    by : (ds : List Channel) (b : Bool) → nat_lt 256 (event_count ds) ≡ b → cond b None (Some ds) ≡ Some cs → (ds ≡ cs) × (event_count ds ≤ 256)
    by ds true p q = absurd cc
    by ds false p q = (some_same q, ltb-false 256 (event_count ds) p)

module _ (t : Syntax) (ts : Syntaxes) where
  all_declared : (es : List Entry) → script_parts t ≡ Some ts → fitting_entries t ≡ Some es → declared_by_all ts ≡ Some es
  all_declared es p e = sym (parts_declared t ts p) ∙ (are_fitting t es e).named

  pub found : (es : List Entry) (f : Known) (cs : List Channel) → script_parts t ≡ Some ts → fitting_entries t ≡ Some es → Stands es f → entered f [] (declared_by_all ts) ≡ Some cs → Declares t es f cs
  found es f cs p e s h =
      let d = are_fitting t es e in
      let r = small_one f es cs (sym (ap (entered f []) (all_declared es p e)) ∙ h) in
      record { named = d.named; once = d.once; parameters = d.parameters; stands = s; fielded = r.0; small = r.1 }

  pub all_follow : (es : List Entry) (f : Known) → has_names t ≡ true → script_parts t ≡ Some ts → fitting_entries t ≡ Some es → Stands es f → Follows f [] (declared_by_all ts)
  unfolding with_entries channels_of small names
  all_follow es f n p e s =
      let d = are_fitting t es e in
      let whole = are_declared ts es f (all_declared es p e) d.once (parts_named t ts p n) s in
      (es, all_declared es p e, record { front = []; rest = []; all = subst (AreDeclared f) (sym (append-nil es)) whole; entered = refl })

-- ---- what is declared is found

-- two tables of what names stand for are one
pub one_table : (es : List Entry) (f g : Known) → Stands es f → Stands es g → f ≡ g
one_table es f g h k = λ i n. same n i
  where
    by : (n : Name) (o p : Option Worth) → f n ≡ o → g n ≡ p → o ≡ p
    by n None None a b = refl
    by n (Some v) p a b = sym ((k n v).1 ((h n v).0 a)) ∙ b
    by n None (Some w) a b = sym a ∙ (h n w).1 ((k n w).0 b)

    same : (n : Name) → f n ≡ g n
    same n = by n (f n) (g n) refl refl

pub declares_entries : (t : Syntax) (es : List Entry) (f : Known) (cs : List Channel) → Declares t es f cs → fitting_entries t ≡ Some es
unfolding fitting_entries fitting distinct_entries
declares_entries t es f cs d =
    ap (λ o. (o >>= λ es. cond (are_distinct es) (Some es) None) >>= λ es. fitting es) d.named
    ∙ ap (λ b. cond b (Some es) None >>= λ es. fitting es) d.once
    ∙ ap (λ b. cond b (Some es) None) d.parameters

pub declares_channels : (t : Syntax) (ts : Syntaxes) (es fs : List Entry) (f g : Known) (cs : List Channel) → Declares t es f cs → script_parts t ≡ Some ts → fitting_entries t ≡ Some fs → Stands fs g → (fs ≡ es) × (g ≡ f) × (entered g [] (declared_by_all ts) ≡ Some cs)
unfolding with_entries small
declares_channels t ts es fs f g cs d p e s =
    let same : fs ≡ es = some_same (sym e ∙ declares_entries t es f cs d) in
    let table : g ≡ f = one_table es g f (subst (λ xs. Stands xs g) same s) d.stands in (
      same,
      table,
      ap (λ x. entered x [] (declared_by_all ts)) table ∙ ap (entered f []) (sym (parts_declared t ts p) ∙ d.named)
          ∙ ap (λ o. o >>= λ cs. cond (nat_lt 256 (event_count cs)) None (Some cs)) d.fielded ∙ by (nat_lt 256 (event_count cs)) refl d.small,
    )
  where
    by : (b : Bool) → nat_lt 256 (event_count cs) ≡ b → event_count cs ≤ 256 → cond b None (Some cs) ≡ Some cs
    by true q h = absurd (let k = ltb-true 256 (event_count cs) q in omega (arith, h, k))
    by false q h = refl

-- ---- faults

fails_some : {X Y : Type 0} (k : ReadError) (o : Option X) (x : X) (p : Option Y) → o ≡ Some x → Fails k o → Fails k p
fails_some k o x p h e = fails_on k o p (λ n. absurd (let z : None ≡ Some x = sym n ∙ h in cc)) e

-- where names aren't distinct, they don't fit
pub entries_none : (k : ReadError) (t : Syntax) → Fails k (distinct_entries t) → Fails k (fitting_entries t)
unfolding fitting_entries
entries_none k t h = fails_on k (distinct_entries t) (fitting_entries t) (λ n. ap (λ o. o >>= λ es. fitting es) n) h

-- another fault may be answered for that of the names
pub other_fails : (e : ReadError) (t : Syntax) → distinct_entries t ≡ None → Fails e (fitting_entries t)
other_fails e t h = entries_none e t (fails_none e (distinct_entries t) h)

-- names whose parameters are in order, and others
pub fit_same : (es : List Entry) → list_all (λ e. have_parameters es e.1) es ≡ true → fitting es ≡ Some es
unfolding fitting
fit_same es h = ap (λ b. cond b (Some es) None) h

pub unfit_fails : (k : ReadError) (es : List Entry) → list_all (λ e. have_parameters es e.1) es ≡ false → Fails k (fitting es)
unfolding fitting
unfit_fails k es h = fails_none k (fitting es) (ap (λ b. cond b (Some es) None) h)

pub entries_found : (t : Syntax) (es : List Entry) → distinct_entries t ≡ Some es → fitting es ≡ fitting_entries t
unfolding fitting_entries
entries_found t es h = sym (ap (λ o. o >>= λ es. fitting es) h)

pub entries_fail : {Y : Type 0} (k : ReadError) (t : Syntax) (es : List Entry) (f : Known) (cs : List Channel) (p : Option Y) → Declares t es f cs → Fails k (fitting_entries t) → Fails k p
entries_fail k t es f cs p d e = fails_some k (fitting_entries t) es p (declares_entries t es f cs d) e

pub parts_fail : {Y : Type 0} (k : ReadError) (t : Syntax) (es : List Entry) (f : Known) (cs : List Channel) (p : Option Y) → Declares t es f cs → Fails k (script_parts t) → Fails k p
parts_fail k t es f cs p d e = entries_fail k t es f cs p d (entries_none k t (parts_none k t e))

pub channels_fail : {Y : Type 0} (k : ReadError) (t : Syntax) (ts : Syntaxes) (es fs : List Entry) (f g : Known) (cs : List Channel) (p : Option Y) → Declares t es f cs → script_parts t ≡ Some ts → fitting_entries t ≡ Some fs → Stands fs g → Fails k (entered g [] (declared_by_all ts)) → Fails k p
channels_fail k t ts es fs f g cs p d q e s h = fails_some k (entered g [] (declared_by_all ts)) cs p (declares_channels t ts es fs f g cs d q e s).2 h

pub same_all : (es fs : List Entry) (f g : Known) (cs ds : List Channel) → es ≡ fs → f ≡ g → cs ≡ ds → (let a : Option (List Entry × Known × List Channel) = Some (es, f, cs) in let b : Option (List Entry × Known × List Channel) = Some (fs, g, ds) in a ≡ b)
same_all es fs f g cs ds a b c = λ i. Some (a i, b i, c i)

-- ---- where the channels are entered over names and what they mean

module _ (t : Syntax) (ts : Syntaxes) (es : List Entry) (f : Known) where
  pub found_in : (r : Result (List Channel) ReadError) → script_parts t ≡ Some ts → fitting_entries t ≡ Some es → Stands es f → Gives (λ cs. cs) r (entered f [] (declared_by_all ts)) → IfOk r (λ cs. Declares t es f cs)
  found_in (Ok cs) p e s h = found t ts es f cs p e s h
  found_in (Err k) p e s h = tt

  pub found_only : (r : Result (List Channel) ReadError) → script_parts t ≡ Some ts → fitting_entries t ≡ Some es → Stands es f → Gives (λ cs. cs) r (entered f [] (declared_by_all ts))
      → (fs : List Entry) (g : Known) (ds : List Channel) → Declares t fs g ds → Gives {Y = List Entry × Known × List Channel} (λ cs. (es, f, cs)) r (Some (fs, g, ds))
  found_only (Ok cs) p e s h fs g ds d =
      let r = declares_channels t ts fs es g f ds d p e s in
      same_all fs es g f ds cs (sym r.0) (sym r.1) (some_same (sym r.2 ∙ h))
  found_only (Err k) p e s h fs g ds d = channels_fail k t ts fs es g f ds _ d p e s h
