-- Writes and cuts of which nothing is done.
use Rattle.std.proofs.Common.{◌≡◌, ℕ, ◌+◌, List, [], ◌++◌, take, drop, refl, sym, ◌∙◌, ap, append_assoc, take-append-drop}
use Rattle.std.proofs.lemmas.List.{append-nil, drop-drop}
use Rattle.disk.specs.Calls.{Torn, CutShort}

pub torn_none : (at n : ℕ) (file : List ℕ) → Torn at n file file
torn_none at n file =
    let parts : file ≡ take at file ++ (take n (drop at file) ++ drop n (drop at file)) =
    sym (take-append-drop at file) ∙ ap (λ (l : List ℕ). take at file ++ l) (sym (take-append-drop n (drop at file))) in
    let whole : file ≡ take at file ++ take n (drop at file) ++ drop (at + n) file ++ [] =
    parts ∙ sym (append_assoc (take at file) (take n (drop at file)) (drop n (drop at file)))
    ∙ ap (λ (l : List ℕ). take at file ++ take n (drop at file) ++ l) (drop-drop n at file) ∙ sym (append-nil _) in
    record { over = take n (drop at file); more = []; fits = refl; is = whole }

pub cut_none : (len : ℕ) (file : List ℕ) → CutShort len file file
cut_none len file = record { more = drop len file; is = sym (take-append-drop len file) }
