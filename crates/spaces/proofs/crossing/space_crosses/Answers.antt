use denote.Param.Send.{IsSend, param_send, sendable}
use denote.Param.SendFields.{declared_send}
use Rattle.std.specs.contracts.alloc.Global as Global
use Rattle.std.specs.contracts.impls.GlobalAllocator.TheImpl.{ghosts}
use Rattle.spaces.specs.contracts.space.Space as Space
use Rattle.spaces.specs.contracts.space.Space.TheInside as Inside
use Rattle.spaces.proofs.crossing.space_crosses.Goals as goal

pub crosses-requires-2-send-T : goal.crosses-requires-2-send-T
crosses-requires-2-send-T c κs =
    let space : IsSend (Space.the_row Global.the_row ghosts) = record {
      owned = λ d vs x. (
        (declared_send (Inside.the_type Global.the_row ghosts) (
          record { owned = c.sets_cross.ensures.sets.owned; leaving = c.sets_cross.ensures.sets.leaving },
          (record { owned = c.crosses.ensures.owned; leaving = λ k y w. search sendable }, tt),
        )).owned x.0 vs,
        tt,
      );
      leaving = λ k d w. tt;
    } in
    let sent = param_send 0 (Space.the_row Global.the_row ghosts) space in
    record { owned = sent.owned; leaving = sent.leaving }
