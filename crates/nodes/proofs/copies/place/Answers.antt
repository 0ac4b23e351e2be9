use Rattle.std.proofs.Common.{◌≡◌, ℕ, List, Option, None, Some, IfSome, length, refl, sym, ap, ◌∙◌}
use Rattle.std.proofs.lemmas.Bool.{ltb-true}
use Rattle.std.proofs.lemmas.Option.{slice_get_read}
use Rattle.term.specs.Proc.{Proc}
use Rattle.nodes.specs.Copies.{ArePlaces}
use Rattle.nodes.specs.Shapes.{at}
use Rattle.nodes.specs.Tables.{Tabled, IsNumber}
use Rattle.nodes.proofs.copies.place.Goals as goal

pub returns-in-Some : goal.returns-in-Some
returns-in-Some c = go c.in-Some.place.now refl
  where
    places : List (Option ℕ)
    places = c.args.places.now

    go : (o : Option ℕ) → c.in-Some.place.now ≡ o → IfSome o (λ n. (t : Tabled) (ps : List Proc) → ArePlaces t ps places → IsNumber t n (at ps c.args.number))
    go None is = tt
    go (Some n) is = λ t ps a.
        let h = c.in-Some.ensures.lookup in
        a c.args.number n (slice_get_read places (length places) c.args.number c.in-Some.place.now refl (ltb-true c.args.number (length places) (sym h.0)) h.1 ∙ ap Some is)
