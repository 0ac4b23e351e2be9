-- Body by body through the definitions that are reached.
use Rattle.std.proofs.Common.{◌≡◌, ℕ, zero, suc, ◌+◌, ◌-◌, ◌<◌, ◌≤◌, List, [], ◌∷◌, ◌++◌, length, take, map, get_or, Option, Some, None, refl, sym, ap, ap₂, subst, ◌∙◌, arith, append_assoc, append-nil, take-suc}
use Rattle.std.specs.List.{All, flat_map}
use Rattle.std.proofs.lemmas.List.{length-map, length-append, map-append}
use Rattle.std.proofs.lemmas.List.Elements.{All-append, All-get_or}
use Rattle.term.specs.Proc.{Proc}
use Rattle.term.specs.Proc as procs
use Rattle.term.specs.Sizes as terms
use Rattle.values.specs.Values.{◌>>=◌}
use Rattle.denotation.specs.Bodies.{Key, Body, stop, names, numbered, size, sizes, depth}
use Rattle.denotation.specs.Denotes.{place, with_keys, met, nodes, Reached, Gathered}
use Rattle.denotation.specs.Rooms.{fit, fits, shallow, within_limits}
use Rattle.denotation.proofs.Keys.{keys_append}
use Rattle.denotation.proofs.Numbered.{then_more, same_depth, same_nodes}
use Rattle.denotation.proofs.Rooms.{split, room_enough, room_less, some_pair}
use Rattle.event_phrases.proofs.Options.{some_is}
use Rattle.event_phrases.proofs.Scopes.{take_whole}
use Rattle.denotation.proofs.Reached.{get_or_view, get_front, keys_grow, met_front, one_reached}

-- ---- one body

no_some : {A : Type 0} {x : A} → None ≡ Some x → ⊥
no_some h = cc

shallow_enough : (x : Body × ℕ) → depth x.0 ≤ 200 → shallow x ≡ Some x
shallow_enough x h = grind (arith, h)

shallow_some : (y x : Body × ℕ) → shallow y ≡ Some x → (y ≡ x) × (depth y.0 ≤ 200)
shallow_some y x h = split _ (depth y.0) 200 (λ a. (some_is (sym (shallow_enough y a) ∙ h), a)) (λ a. absurd (no_some (sym (less y a) ∙ h)))
  where
    less : (y : Body × ℕ) → 200 < depth y.0 → shallow y ≡ None
    less y a = grind (arith, a)

pub nothing_within : (room : ℕ) (o : Option Body) → o ≡ None → within_limits room o ≡ None
unfolding fit
nothing_within room o h = ap (within_limits room) h

-- what there is room for is the body
pub sound : (room : ℕ) (o : Option Body) (x : Body × ℕ) → (fits room o >>= shallow) ≡ Some x → (o ≡ Some x.0) × (x.1 + size x.0 ≡ room) × (depth x.0 ≤ 200)
unfolding fit
sound room None x h = absurd (no_some h)
sound room (Some b) x h = split _ (size b) room enough (λ a. absurd (no_some (sym (ap (λ o. (o >>= some_pair b) >>= shallow) (room_less (size b) room a)) ∙ h)))
  where
    enough : size b ≤ room → (Some b ≡ Some x.0) × (x.1 + size x.0 ≡ room) × (depth x.0 ≤ 200)
    enough a =
        let s = shallow_some (b, room - size b) x (sym (ap (λ o. (o >>= some_pair b) >>= shallow) (room_enough (size b) room a)) ∙ h) in
        let e : b ≡ x.0 = ap (λ (x : Body × ℕ). x.0) s.0 in
        let z : room - size b ≡ x.1 = ap (λ (x : Body × ℕ). x.1) s.0 in
        let n : size b ≡ size x.0 = ap size e in
        (ap (λ b. Some b) e, omega (arith, z, a, n), subst (λ b. depth b ≤ 200) e s.1)

pub complete : (room : ℕ) (o : Option Body) (b : Body) → o ≡ Some b → size b ≤ room → depth b ≤ 200 → (fits room o >>= shallow) ≡ Some (b, room - size b)
unfolding fit
complete room o b e h d =
    ap (λ o. fits room o >>= shallow) e ∙ ap (λ o. (o >>= some_pair b) >>= shallow) (room_enough (size b) room h) ∙ shallow_enough (b, room - size b) d

-- ---- lists

size_some : (b : Body) → 1 ≤ size b
unfolding size
size_some stop = omega arith
size_some b = omega arith

pub body_less : (room : ℕ) (o : Option Body) (x : Body × ℕ) → (fits room o >>= shallow) ≡ Some x → x.1 < room
body_less room o x h = let (d, r, l) = sound room o x h in omega (arith, r, size_some x.0)

take_front : {A : Type 0} (xs ys : List A) (n : ℕ) → n ≤ length xs → take n (xs ++ ys) ≡ take n xs
take_front xs ys zero h = refl
take_front [] ys (suc n) h = absurd (omega (arith, h))
take_front (x ∷ xs) ys (suc n) h = ap (λ zs. x ∷ zs) (take_front xs ys n (omega (arith, h)))

names_push : (bs : List Body) (b : Body) → flat_map names (bs ++ b ∷ []) ≡ flat_map names bs ++ names b
names_push [] b = append-nil (names b)
names_push (c ∷ bs) b = ap (λ ns. names c ++ ns) (names_push bs b) ∙ sym (append_assoc (names c) (flat_map names bs) (names b))

sizes_push : (bs : List Body) (b : Body) → sizes (bs ++ b ∷ []) ≡ sizes bs + size b
unfolding sizes
sizes_push [] b = omega arith
sizes_push (c ∷ bs) b = omega (arith, sizes_push bs b)

sizes_take : (n : ℕ) (bs : List Body) (d : Body) → n < length bs → sizes (take n bs) + size (get_or bs n d) ≤ sizes bs
unfolding sizes
sizes_take n [] d h = absurd (omega (arith, h))
sizes_take zero (b ∷ bs) d h = omega arith
sizes_take (suc n) (b ∷ bs) d h = omega (arith, sizes_take n bs d (omega (arith, h)))

cases : (P : Type 0) (j n : ℕ) → j ≤ n → (j < n → P) → (j ≡ n → P) → P
cases P zero zero h f g = g refl
cases P zero (suc n) h f g = f (omega arith)
cases P (suc j) zero h f g = absurd (omega (arith, h))
cases P (suc j) (suc n) h f g = cases P j n (omega (arith, h)) (λ a. f (omega (arith, a))) (λ a. g (ap suc a))

below_push : (root : Key) (bs : List Body) (b : Body) (keys : List Key) → keys ≡ met root bs → length bs < length keys → ((j : ℕ) → j < length bs → j < length (met root (take j bs))) → (j : ℕ) → j ≤ length bs → j < length (met root (take j (bs ++ b ∷ [])))
below_push root bs b keys k h below j a =
    let t : take j (bs ++ b ∷ []) ≡ take j bs = take_front bs (b ∷ []) j a in
    let goal : j < length (met root (take j bs)) = cases (j < length (met root (take j bs))) j (length bs) a (below j)
    (λ e. let w : take j bs ≡ bs = take_whole j bs (omega (arith, e)) in
    let z : length keys ≡ length (met root (take j bs)) = ap length (k ∙ ap (met root) (sym w)) in omega (arith, e, h, z)) in
    let z : length (met root (take j (bs ++ b ∷ []))) ≡ length (met root (take j bs)) = ap (λ xs. length (met root xs)) t in
    omega (arith, goal, z)

only_one : (p : Proc) → terms.depth p ≤ 200 → (k : ℕ) (d : Proc) → k < 1 → terms.depth (get_or (p ∷ []) k d) ≤ 200
only_one p h zero d l = h
only_one p h (suc k) d l = absurd (omega (arith, l))

-- ---- the work on its way

-- where these processes were made, these definitions met, and so many nodes may still be made
pub record Progress (f : Key → Option Body) (root : Key) (ps : List Proc) (keys : List Key) (room : ℕ) : Type 0 where
  pub bodies : List Body
  pub numbers : (more : List Key) → ps ≡ map (numbered (place (with_keys keys more))) bodies
  pub keyed : keys ≡ met root bodies
  pub each : map f (take (length bodies) keys) ≡ map Some bodies
  pub low : length bodies ≤ length keys
  pub left : room + sizes bodies ≡ 65536
  pub deep : All (λ p. terms.depth p ≤ 200) ps
  pub below : (j : ℕ) → j < length bodies → j < length (met root (take j bodies))
  -- they are the first of whatever is reached
  pub only : (ks : List Key) (cs : List Body) → Reached f root ks cs → bodies ≡ take (length bodies) cs

pub as_many : {f : Key → Option Body} {root : Key} {ps : List Proc} {keys : List Key} {room : ℕ} (p : Progress f root ps keys room) → length ps ≡ length p.bodies
as_many p = ap length (p.numbers []) ∙ length-map p.bodies _

pub start : (f : Key → Option Body) (root : Key) → Progress f root [] (root ∷ []) 65536
unfolding met with_keys sizes
start f root = record { bodies = []; numbers = λ more. refl; keyed = refl; each = refl; low = omega arith; left = omega arith; deep = λ k d h. absurd (omega (arith, h)); below = λ j h. absurd (omega (arith, h)); only = λ ks cs r. refl }

module _ (f : Key → Option Body) (root : Key) (ps : List Proc) (keys : List Key) (room : ℕ) (p : Progress f root ps keys room) where
  -- the next body of what is reached
  next_of : length ps < length keys → (ks : List Key) (cs : List Body) → Reached f root ks cs → (length ps < length cs) × (f (get_or keys (length ps) root) ≡ Some (get_or cs (length ps) stop))
  next_of h ks cs r =
      let n = length ps in
      let m : n ≡ length p.bodies = as_many p in
      let t : p.bodies ≡ take n cs = p.only ks cs r ∙ ap (λ i. take i cs) (sym m) in
      let (rest, e) = met_front root n cs in
      let k : ks ≡ keys ++ rest = sym r.first ∙ e ∙ ap (λ xs. xs ++ rest) (ap (met root) (sym t) ∙ sym p.keyed) in
      let l : length ks ≡ length cs = sym (length-map ks f) ∙ ap length r.each ∙ length-map cs _ in
      let g : length ks ≡ length keys + length rest = ap length k ∙ length-append keys rest in
      let a : n < length ks = omega (arith, g, h) in
      let b : n < length cs = omega (arith, a, l) in
      (b, ap (f) (sym (ap (λ xs. get_or xs n root) k ∙ get_front keys rest n root h)) ∙ sym (get_or_view f ks n None root a) ∙ ap (λ xs. get_or xs n None) r.each ∙ get_or_view (λ x. Some x) cs n None stop b)

  pub one_more : (x : Body × ℕ) (q : Proc) (after : List Key) → length ps < length keys → (fits room (f (get_or keys (length ps) root)) >>= shallow) ≡ Some x → with_keys keys (names x.0) ≡ after → q ≡ numbered (place after) x.0 → Progress f root (ps ++ q ∷ []) after x.1
  unfolding met
  one_more x q after h e k z =
      let n = length ps in
      let m : n ≡ length p.bodies = as_many p in
      let b = x.0 in
      let (d, left, low) = sound room (f (get_or keys n root)) x e in
      let deep : terms.depth q ≤ 200 = let w = ap terms.depth z ∙ same_depth (place after) b in omega (arith, w, low) in
      let l : length (p.bodies ++ b ∷ []) ≡ suc n = length-append p.bodies (b ∷ []) ∙ omega (arith, m) in
      let (rest, g) = keys_grow (names b) keys in
      let grown : after ≡ keys ++ rest = sym k ∙ g in
      let longer : length after ≡ length keys + length rest = ap length grown ∙ length-append keys rest in
      let later : (more : List Key) → with_keys keys (names b ++ more) ≡ with_keys after more = λ more. keys_append keys (names b) more ∙ ap (λ ks. with_keys ks more) k in
      record {
        bodies = p.bodies ++ b ∷ [];
        numbers = λ more. ap₂ (λ ps q. ps ++ q ∷ []) (p.numbers (names b ++ more) ∙ ap (λ ks. map (numbered (place ks)) p.bodies) (later more)) (z ∙ sym (then_more b keys after more k)) ∙ sym (map-append (numbered (place (with_keys after more))) p.bodies (b ∷ []));
        keyed = sym k ∙ ap (λ ks. with_keys ks (names b)) p.keyed ∙ sym (keys_append (root ∷ []) (flat_map names p.bodies) (names b)) ∙ ap (with_keys (root ∷ [])) (sym (names_push p.bodies b));
        each = ap (λ i. map f (take i after)) l ∙ ap (λ ks. map f (take (suc n) ks)) grown
            ∙ ap (map f) (take_front keys rest (suc n) (omega (arith, h)) ∙ take-suc keys n root h)
            ∙ map-append f (take n keys) (get_or keys n root ∷ [])
            ∙ ap₂ (λ xs y. xs ++ y ∷ []) (ap (λ i. map f (take i keys)) m ∙ p.each) d
            ∙ sym (map-append (λ x. Some x) p.bodies (b ∷ []));
        low = omega (arith, l, longer, h);
        left = omega (arith, p.left, left, sizes_push p.bodies b);
        deep = All-append (λ p. terms.depth p ≤ 200) ps (q ∷ []) p.deep (only_one q deep);
        below = λ j a. below_push root p.bodies b keys p.keyed (omega (arith, h, m)) p.below j (omega (arith, a, l, m));
        only = λ ks cs r.
            let (a, c) = next_of h ks cs r in
            let same : b ≡ get_or cs n stop = some_is (sym d ∙ c) in
            ap₂ (λ ps q. ps ++ q ∷ []) (p.only ks cs r ∙ ap (λ i. take i cs) (sym m)) same ∙ sym (take-suc cs n stop a) ∙ ap (λ i. take i cs) (sym l);
      }

  -- where each definition that was met has its body, these are the bodies of what is reached
  pub finish : length keys ≤ length ps → Gathered f root ps
  unfolding with_keys
  finish h =
      let m = as_many p in
      let z : nodes ps ≡ sizes p.bodies = ap nodes (p.numbers []) ∙ same_nodes (place keys) p.bodies in
      record {
        keys = keys;
        bodies = p.bodies;
        reached = record { each = ap (map f) (sym (take_whole (length p.bodies) keys (omega (arith, h, m)))) ∙ p.each; first = sym p.keyed; below = λ i a. p.below i (omega (arith, a, h, m)) };
        numbers = p.numbers [];
        deep = p.deep;
        large = omega (arith, p.left, z);
      }

  -- and no others are
  pub unique : length keys ≤ length ps → (qs : List Proc) → Gathered f root qs → qs ≡ ps
  unique h qs d =
      let g = finish h in
      let (ks, bs) = one_reached f root d.keys g.keys d.bodies g.bodies d.reached g.reached in
      d.numbers ∙ ap₂ (λ ks bs. map (numbered (place ks)) bs) ks bs ∙ sym g.numbers

  -- a body that isn't made is missing, or there is no room for it, or it is too deep
  pub stuck : length ps < length keys → (qs : List Proc) → Gathered f root qs → (fits room (f (get_or keys (length ps) root)) >>= shallow) ≡ None → ⊥
  stuck h qs d e =
      let n = length ps in
      let (a, c) = next_of h d.keys d.bodies d.reached in
      let b = get_or d.bodies n stop in
      let t : p.bodies ≡ take n d.bodies = p.only d.keys d.bodies d.reached ∙ ap (λ i. take i d.bodies) (sym (as_many p)) in
      let z : sizes p.bodies ≡ sizes (take n d.bodies) = ap sizes t in
      let all : nodes qs ≡ sizes d.bodies = ap nodes d.numbers ∙ same_nodes (place d.keys) d.bodies in
      let k = sizes_take n d.bodies stop a in
      let l : length qs ≡ length d.bodies = ap length d.numbers ∙ length-map d.bodies _ in
      let deep : terms.depth (get_or qs n procs.stop) ≤ 200 = All-get_or (λ p. terms.depth p ≤ 200) qs n procs.stop (omega (arith, a, l)) d.deep in
      let it : get_or qs n procs.stop ≡ numbered (place d.keys) b = ap (λ xs. get_or xs n procs.stop) d.numbers ∙ get_or_view (numbered (place d.keys)) d.bodies n procs.stop stop a in
      let same : terms.depth (get_or qs n procs.stop) ≡ depth b = ap terms.depth it ∙ same_depth (place d.keys) b in
      no_some (sym e ∙ complete room (f (get_or keys n root)) b c (omega (arith, z, all, k, d.large, p.left)) (omega (arith, deep, same)))
