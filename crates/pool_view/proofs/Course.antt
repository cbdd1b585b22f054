-- The course meets each move's condition.
use Rattle.std.proofs.Common.{◌≡◌, inl, inr, Some, None, Bool, true, false, refl, arith, if◌then◌else◌, IfSome}
use Rattle.ad_eval.specs.Judgement.{Judgement}
use Rattle.pool_view.specs.declared.mark.SlotMark.{SlotMark}
use Rattle.pool_view.specs.Numbers.{same_slot}
use Rattle.pool_view.specs.Course.{the_slot, the_run, course_opening, lease_until, course}
use Rattle.pool_view.specs.Facts.{IsOpening}
use Rattle.pool_view.specs.ProtocolMove.{MayAll}

abbrev first_mark : SlotMark
first_mark = record { boot = 7; ended = 0; held = None }

pub course_opens : (judged : Judgement) → IsOpening (course_opening judged)
course_opens judged = record {
  grants = refl;
  leases = refl;
  gone = refl;
  runs = refl;
  reports = refl;
  pending = refl;
  marks = λ slot. none_held (same_slot slot the_slot);
  jobs = λ job. tt;
  acked = λ job there. absurd there;
  removals = λ job there. absurd there;
}
  where
    none_held : (b : Bool) → IfSome (if b then Some first_mark else None) (λ m. m.held ≡ None)
    none_held true = refl
    none_held false = tt

pub course_goes : (judged : Judgement) → MayAll (course_opening judged) (course judged)
course_goes judged = (
  omega arith,
  (
    (refl, (refl, tt)),
    (
      tt,
      (
        refl,
        (
          (refl, omega arith, refl),
          (
            (refl, (refl, refl)),
            (
              tt,
              (
                (refl, (refl, refl)),
                (
                  tt,
                  (
                    ((60, refl, omega arith), refl),
                    (
                      record { slot = refl; held = (refl, omega arith); free = λ s there. absurd there; lease = lease_until judged 60; sent = inl refl; its_run = refl; its_job = refl; its_core = refl; its_until = omega arith; slot_ad = refl; match = judged.fits },
                      (
                        (refl, (the_run, 60, refl, omega arith)),
                        (
                          tt,
                          (
                            ((90, refl, omega arith), refl),
                            (
                              (inl refl, (lease_until judged 90, inl refl, refl, omega arith)),
                              (
                                refl,
                                (
                                  (refl, inl refl),
                                  (
                                    tt,
                                    (
                                      inl refl,
                                      (
                                        refl,
                                        (
                                          (inr (inr (refl, omega arith)), λ s there same. absurd there),
                                          (
                                            (refl, (inl (inl refl), inr (inl (inl (inl refl))))),
                                            (
                                              (refl, λ s there. absurd there),
                                              (
                                                (omega arith, λ s there. absurd there),
                                                (
                                                  tt,
                                                  tt,
                                                ),
                                              ),
                                            ),
                                          ),
                                        ),
                                      ),
                                    ),
                                  ),
                                ),
                              ),
                            ),
                          ),
                        ),
                      ),
                    ),
                  ),
                ),
              ),
            ),
          ),
        ),
      ),
    ),
  ),
)
