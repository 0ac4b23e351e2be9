-- How a service went that has ended.
use Rattle.std.proofs.Common.{◌≡◌, ◌+◌, ℕ, List, length, arith, Option}
use Rattle.term.specs.Specs.{Specified}
use Rattle.shared.specs.Entry.{Entry}
use Rattle.shared.specs.View.{PlacesView}
use Rattle.shared.specs.Seats.{answers_to}
use Rattle.wire.specs.Faults.{Fault}
use Rattle.connections.specs.declared.services.Closed.{Closed}
use Rattle.connections.specs.declared.services.Terms.{Terms}
use Rattle.connections.specs.Services.{Came}
use Rattle.serving.specs.Runs.{IsNewSeat}
use Rattle.answers.specs.Faults.{IsNoSeat}
use Rattle.serving.specs.Services.{IsServedAt, Ran}

module _ {L R W : Type 0} (takes : L → R → W → L → Type 0) (fails waits : L → L → Type 0) (left : R → Option (List ℕ)) (is_closed : R → Type 0) (contents : W → Option (List ℕ)) (tells : W → Fault → Type 0) where
  abbrev pub CameOf : L → PlacesView → Terms → Specified → List Entry → Closed PlacesView → Type 0
  CameOf accept places terms spec opening closed =
      Came (IsNewSeat opening) IsNoSeat (IsServedAt spec) answers_to (λ (p : PlacesView). p.free) (λ (p : PlacesView). p.receipts) takes fails waits left is_closed contents tells accept places terms closed

  pub ran_of : (accept : L) (places : PlacesView) (terms : Terms) (spec : Specified) (opening history : List Entry) (closed : Closed PlacesView) (answered : ℕ)
      → CameOf accept places terms spec opening closed → places.receipts ≡ 0
      → length history ≡ length opening + answered → answered ≡ closed.places.receipts
      → Ran takes fails waits left is_closed contents tells accept terms places.free spec opening history closed.totals closed.accept_failed answered
  ran_of accept places terms spec opening history closed answered came none counted count =
      let counted_are = came.counted_are in
      record {
        steps = came.steps;
        last = came.last;
        failures = came.failures;
        any = came.any;
        looks = came.looks;
        stands = came.stands;
        held = came.held;
        sum = came.sum;
        counted = counted;
        receipts_are = omega (arith, none, count, counted_are);
      }
