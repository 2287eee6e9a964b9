use Rattle.trio_session.proofs.Words.{if◌then◌else◌, ◌+◌, ◌<◌, ◌∙◌, ◌≡◌, ◌≤◌, Bool, InoParts, List, Made, SessionSeen, ap, arith, eqb, false, get_or, ino_numbers, is_among, is_some, length, length-map, lower, option_map_or, position, slice_get, subst, sym, true, used_numbers, ℕ}
use Rattle.trio_session.proofs.Found.{ino_number, is_some-at, spare_step}
use Rattle.trio_session.proofs.Insides.{files_in, view_shows}
use Rattle.trio_session.proofs.Seeing.{Shows, used-cleared, used-made}
use Rattle.trio_session.proofs.session.Session.spare_ino.Goals as goal
use Rattle.trio_session.proofs.session.Session.spare_ino.Goals.{then-is_at, else-is_at+then-is_at-2, else-is_at+else-is_at-2}

pub loop-allotted-preserved : goal.loop-allotted-preserved
loop-allotted-preserved c =
    let s = c.self.inside in
    let fs = files_in s in
    let shows = subst (λ v. Shows v fs) c.self.view_is (view_shows s) in
    let i = c.loop-allotted.allotted-index in
    let all = c.args.self.now.parcel.inodes in
    let used = used_numbers c.args.self.now in
    let n = c.no-ino.result in
    let best = c.loop-allotted.best in
    let p : Made → Bool = λ m. eqb m.ino n in
    let items : c.inodes-allotted-items.result.now ≡ all = c.inodes-allotted-items.ensures ∙ ap (λ (v : SessionSeen). v.parcel.inodes) c.self.view_is in
    let lt : i < length c.inodes-allotted-items.result.now = c.loop-allotted-test.true in
    let number : n ≡ get_or (ino_numbers all) i 0 =
    c.no-ino.ensures ∙ ino_number c.inodes-allotted-items.result.now i c.allotted-item.result lt c.allotted-item.is ∙ ap (λ xs. get_or (ino_numbers xs) i 0) items in
    let within : i < length (ino_numbers all) = rw length-map (subst (λ (xs : List InoParts). i < length xs) items lt) in
    let found : (at : ℕ) (ms : List Made) → option_map_or p (slice_get ms at) false ≡ true → is_some (position p ms) ≡ true = λ at ms. is_some-at (λ (m : Made). m.ino) ms at n in
    let of_used : is_among n used ≡ true → best ≡ (if is_among n used then best else lower best n) = λ e. sym (ap (λ b. if b then best else lower best n) e) in
    let step : c.if-is_at.best ≡ (if is_among n used then best else lower best n) =
    elim c.if-is_at.branch [
      | then-is_at w ↦ w.best-is ∙ of_used (used-made c.args.self.now fs n shows (subst (λ (ms : List Made). is_some (position p ms) ≡ true) c.deref.ensures.value (found c.loop-allotted.made _ (sym c.is_at.ensures ∙ w.if-is_at.true))))
      | else-is_at+then-is_at-2 w ↦ w.best-is
          ∙ of_used (used-cleared c.args.self.now fs n shows (subst (λ (ms : List Made). is_some (position p ms) ≡ true) w.deref-else-is_at.ensures.value (found c.loop-allotted.cleared _ (sym w.is_at-else-is_at.ensures ∙ w.if-is_at-2.true))))
      | else-is_at+else-is_at-2 w ↦ w.best-is ∙ w.lower_spare-best.ensures
    ] in
    let steps : c.if-is_at.made + c.if-is_at.cleared ≤ i + 1 =
    elim c.if-is_at.branch [
      | then-is_at w ↦ omega (arith, w.made-is, w.cleared-is, c.loop-allotted.invariant.1)
      | else-is_at+then-is_at-2 w ↦ omega (arith, w.made-is, w.cleared-is, c.loop-allotted.invariant.1)
      | else-is_at+else-is_at-2 w ↦ omega (arith, w.made-is, w.cleared-is, c.loop-allotted.invariant.1)
    ] in
    (spare_step used (ino_numbers all) i n c.if-is_at.best best within number step ∙ c.loop-allotted.invariant.0, steps)
