use denote.Param.{param}
use denote.Param.Send.{sendable}
use denote.Param.SendFields.{as_row_send}
use denote.Struct.Field.{row_field}
use Rattle.serving.proofs.Crossings.{alphabet_sync}
use Rattle.shared.proofs.Crossings.{shared_sync}
use Rattle.shared.proofs.LockedCrossings.{session_send}
use Rattle.serving.proofs.services.serve_at.Goals as goal

pub serve_on-served-requires-sync-G : goal.serve_on-served-requires-sync-G
serve_on-served-requires-sync-G g c κs within =
    let session = session_send (param 0 g.row.J) g.J.Recorder (
      search sendable,
      (
        record { owned = c.legal_crosses.ensures.legal.owned; leaving = c.legal_crosses.ensures.legal.leaving },
        (
          search sendable,
          (
            search sendable,
            (
              record { owned = c.crosses-10.ensures.owned; leaving = λ k x w. search sendable },
              (
                as_row_send (row_field (param 0 g.row.J)) (record { owned = c.crosses.ensures.owned; leaving = c.crosses.ensures.leaving }),
                (
                  search sendable,
                  (
                    record { owned = c.crosses-2.ensures.owned; leaving = λ k x w. search sendable },
                    (
                      record { owned = c.crosses-9.ensures.owned; leaving = λ k x w. search sendable },
                      (
                        record { owned = c.crosses-9.ensures.owned; leaving = λ k x w. search sendable },
                        tt,
                      ),
                    ),
                  ),
                ),
              ),
            ),
          ),
        ),
      ),
    ) in
    let shared = shared_sync (param 0 g.row.J) (param 1 g.row.N) g.N.Sharing g.N.Naming g.N.Ledger _ g.J.Recorder (
      record { owned = session.owned; leaving = session.leaving },
      (
        record { owned = c.crosses-3.ensures.owned; leaving = λ k x w. search sendable },
        (
          record { owned = c.crosses-4.ensures.owned; leaving = λ k x w. search sendable },
          (
            record { owned = c.crosses-5.ensures.owned; leaving = λ k x w. search sendable },
            (
              record { owned = c.crosses-6.ensures.owned; leaving = λ k x w. search sendable },
              (
                record { owned = c.crosses-7.ensures.owned; leaving = λ k x w. search sendable },
                (
                  record { owned = c.crosses-8.ensures.owned; leaving = λ k x w. search sendable },
                  (
                    search sendable,
                    (
                      search sendable,
                      (
                        record { owned = c.crosses-11.ensures.owned; leaving = λ k x w. search sendable },
                        (
                          record { owned = c.crosses-12.ensures.owned; leaving = λ k x w. search sendable },
                          tt,
                        ),
                      ),
                    ),
                  ),
                ),
              ),
            ),
          ),
        ),
      ),
    ) in
    record { shared = λ x b o κ. ((((λ q. tt), shared.shared _ _ _ _), (((λ q. tt), alphabet_sync.shared _ _ _ _), tt)), λ q. tt) }
