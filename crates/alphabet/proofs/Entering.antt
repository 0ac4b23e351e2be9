-- The tables of an alphabet with one channel more.
use Rattle.std.proofs.Common.{◌≡◌, ℕ, ◌+◌, length, arith, Bool, true, false, ◌||◌, nat_eq, List, [], ◌∷◌, ◌++◌, map, cond, Option, Some, is_some, Result, Ok, Err, IsOk, OnOk, is_ok, if◌then◌else◌, refl, sym, ap, ◌∙◌, subst}
use Rattle.std.proofs.lemmas.Bool.{false≢true}
use Rattle.std.proofs.lemmas.List.{map-append}
use Rattle.std.specs.declared.vec.Vec.{Vec}
use Rattle.std.specs.Map.{lookup}
use Rattle.std.specs.Cmp.Lexicographic.{pointwise}
use Rattle.indexmap.specs.IndexMap.{insert_entry}
use Rattle.alphabet.specs.declared.field_value.Value.{Value}
use Rattle.alphabet.specs.Channels.{Values, Channel, event_count, is_declared}
use Rattle.alphabet.specs.Naming.{own_names}
use Rattle.alphabet.specs.Elements.{Distinct}
use Rattle.alphabet.specs.Stored.{field_of, channel_of}
use Rattle.alphabet.specs.Tables.{declared_channels, first_numbers, HasTables}
use Rattle.alphabet.proofs.DistinctNames.{names_distinct}
use Rattle.alphabet.proofs.Declaring.{IsNext, names-push, alphabet-push}
use Rattle.alphabet.proofs.ChannelPlaces.{first_numbers-push}

abbrev Entries : Type 0 → Type 0
Entries A = List (Vec ℕ A × Vec (Vec (Value A) A) A)

by_first : {X : Type 0} (b : Bool) (first rest : Option X) (t : Bool) → is_some first ≡ true → is_some rest ≡ t → is_some (cond b first rest) ≡ (b || t)
by_first true first rest t e f = e
by_first false first rest t e f = f

-- a channel is declared where a look-up finds its name
pub declared_by_lookup : {A : Type 0} (es : Entries A) (n : List ℕ) → is_some (lookup (λ k. pointwise nat_eq n k.items) es) ≡ is_declared (declared_channels es) n
declared_by_lookup [] n = refl
declared_by_lookup (e ∷ es) n = by_first (pointwise nat_eq n e.0.items) (Some e.1) (lookup (λ k. pointwise nat_eq n k.items) es) (is_declared (declared_channels es) n) refl (declared_by_lookup es n)

or-left-none : (s t : Bool) → (s || t) ≡ false → s ≡ false
or-left-none true t h = absurd (false≢true (sym h))
or-left-none false t h = refl

or-right-none : (s t : Bool) → (s || t) ≡ false → t ≡ false
or-right-none true t h = absurd (false≢true (sym h))
or-right-none false t h = h

-- an entry with a new key goes last
insert_new : {A : Type 0} (es : Entries A) (k : Vec ℕ A) (v : Vec (Vec (Value A) A) A) → is_declared (declared_channels es) k.items ≡ false → insert_entry (λ a b. pointwise nat_eq a.items b.items) es k v ≡ es ++ (k, v) ∷ []
insert_new [] k v h = refl
insert_new (e ∷ es) k v h =
    rw (or-left-none (pointwise nat_eq k.items e.0.items) (is_declared (declared_channels es) k.items) h)
    (ap (λ fs. e ∷ fs) (insert_new es k v (or-right-none (pointwise nat_eq k.items e.0.items) (is_declared (declared_channels es) k.items) h)))

pub on_ok : {T E : Type 0} (r : Result T E) (P : Type 0) → IsOk r → OnOk r P → P
on_ok (Ok x) P i h = h
on_ok (Err e) P i h = absurd (false≢true i)

-- a push that had room
pub pushed : {T E X : Type 0} (r : Result T E) (xs held ys : List X) (x : X) → IsOk r → held ≡ xs → ys ≡ (if is_ok r then held ++ x ∷ [] else held) → ys ≡ xs ++ x ∷ []
pushed r xs held ys x ok same e = e ∙ ap (λ b. if b then held ++ x ∷ [] else held) ok ∙ ap (λ zs. zs ++ x ∷ []) same

same_channel : (m n : List ℕ) (fs gs : List Values) → m ≡ n → fs ≡ gs → ◌≡◌ {A = Channel} (record { name = m; fields = fs }) (record { name = n; fields = gs })
same_channel m n fs gs e f = λ i. record { name = e i; fields = f i }

-- the channels after the new entry
pub channels-insert : {A : Type 0} (old es new : Entries A) (k : Vec ℕ A) (v : Vec (Vec (Value A) A) A) (n : List ℕ) (fs : List (Vec (Value A) A)) → es ≡ old → k.items ≡ n → map field_of v.items ≡ map field_of fs → is_declared (declared_channels old) n ≡ false → new ≡ insert_entry (λ a b. pointwise nat_eq a.items b.items) es k v → declared_channels new ≡ declared_channels old ++ channel_of n fs ∷ []
channels-insert old es new k v n fs same name fields none e =
    let unknown : is_declared (declared_channels old) k.items ≡ false = ap (is_declared (declared_channels old)) name ∙ none in
    ap declared_channels (e ∙ ap (λ xs. insert_entry (λ a b. pointwise nat_eq a.items b.items) xs k v) same ∙ insert_new old k v unknown)
    ∙ map-append (λ e. channel_of e.0.items e.1.items) old ((k, v) ∷ [])
    ∙ ap (λ c. declared_channels old ++ c ∷ []) (same_channel k.items n (map field_of v.items) (map field_of fs) name fields)

-- the new names are none of those that are there
pub names_fresh : (cs : List Channel) (c : Channel) (stored : List (List ℕ)) (firsts : List ℕ) → HasTables cs stored firsts → IsNext cs c → Distinct (stored ++ own_names c)
names_fresh cs c stored firsts h n =
    subst Distinct
    (names-push cs c ∙ ap (λ ns. ns ++ own_names c) (sym h.listed))
    (names_distinct (cs ++ c ∷ []) (alphabet-push cs c h.sound n))

pub tables-push : (cs new : List Channel) (c : Channel) (stored grown : List (List ℕ)) (firsts longer : List ℕ) (first : ℕ) → HasTables cs stored firsts → IsNext cs c → new ≡ cs ++ c ∷ [] → grown ≡ stored ++ own_names c → first ≡ length stored → longer ≡ firsts ++ first ∷ [] → HasTables new grown longer
tables-push cs new c stored grown firsts longer first h n e f l g =
    let begins : first ≡ 0 + event_count cs = omega (arith, l, ap length h.listed) in
    subst (λ ds. HasTables ds grown longer) (sym e)
    (record {
      listed = f ∙ ap (λ ns. ns ++ own_names c) h.listed ∙ sym (names-push cs c);
      begun = g ∙ ap (λ xs. xs ++ first ∷ []) h.begun ∙ ap (λ m. first_numbers 0 cs ++ m ∷ []) begins ∙ sym (first_numbers-push 0 cs c);
      sound = alphabet-push cs c h.sound n;
    })
