use Rattle.trio_shared_tests.proofs.Words.{◌∙◌, sym}
use Rattle.trio_shared_tests.proofs.Sitting.{back_same, plays_back}
use Rattle.trio_shared_tests.proofs.seats.gives_back.Goals as goal

pub returns : goal.returns
returns g c =
    let d = c.of-desk in
    let d' = c.back.new.desk in
    let same = back_same _ (λ d. d.shared.now) (λ d. d.seat.now) (λ d. d.seat.ghost_name) (λ d a t d' h. h) d.result d' c.args.raw.now.has c.back.new.self.has c.args.ino c.back.result c.back.ensures.call in
    let after = c.seat-1.given.1 (sym d.ensures.same_reference ∙ sym same.same_name) in
    record {
      on = plays_back _ (λ d. d.shared.now) (λ d. d.seat.now) (λ d. d.seat.ghost_name) (λ d a t d' h. h) c.args.shared.now c.args.seat.now _ _ d.result d' d.ensures.shared d.ensures.seat after same d'.is_seat d'.is_idle
          c.back.ensures.stands;
    }
