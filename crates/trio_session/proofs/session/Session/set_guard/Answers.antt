use Rattle.trio_session.proofs.Words.{◌∙◌, ◌≡◌, Bool, List, Parcel, SessionSeen, ap, body_at, body_guarded, chain_at, home_in, is_directory, open_kind, option_map, refl, with_body_at, sym}
use Rattle.trio_session.specs.Seen.{body_in, set_guard}
use Rattle.trio_session.specs.contracts.session.Session.{the_view}
use Rattle.trio_session.proofs.Chained.{IsAnew, kind_shows, laid_relaid, relaid_as}
use Rattle.trio_session.proofs.Chains.{there_some}
use Rattle.trio_session.proofs.Guards.{GuardDone, guard_done, guard_leaves, kept_guard, relaid_here}
use Rattle.trio_session.proofs.Insides.{files_in}
use Rattle.trio_session.proofs.Opens.{file_plain, finds_in, finds_some, found_at, has_file, is_there, pages_left, plain_kind, plain_some, shows_view, view_left}
use Rattle.trio_session.proofs.session.Session.set_guard.Goals as goal

pub unwrap-file-requires : goal.unwrap-file-requires
unwrap-file-requires c =
    let s = c.self.inside in
    let v = c.args.self.now in
    let ino = c.args.ino in
    let finds = finds_in s ino (option_map (λ o. (o.0, o.1.now)) c.file_among.result) c.deref.result.now c.deref-2.result.now c.deref.ensures.value c.deref-2.ensures.value c.file_among.ensures in
    finds_some v (files_in s) ino c.file_among.result (shows_view v s c.self.view_is) finds (plain_some (open_kind v ino) (file_plain (open_kind v ino) c.requires))

pub guard_file-requires-clause-there : goal.guard_file-requires-clause-there
guard_file-requires-clause-there c =
    let s = c.self.inside in
    let v = c.args.self.now in
    let ino = c.args.ino in
    let finds = finds_in s ino (option_map (λ o. (o.0, o.1.now)) c.file_among.result) c.deref.result.now c.deref-2.result.now c.deref.ensures.value c.deref-2.ensures.value c.file_among.ensures in
    let file = c.unwrap-file.result.0 in
    let l = c.unwrap-file.result.1.now in
    let here = has_file v s ino file l c.self.view_is c.self.invariant (found_at s.stock s.laid.items s.made.items ino c.file_among.result c.unwrap-file.result finds c.unwrap-file.ensures) in
    there_some s.stock file l here.is

pub guard_file-requires-clause-slot : goal.guard_file-requires-clause-slot
guard_file-requires-clause-slot c =
    let s = c.self.inside in
    let v = c.args.self.now in
    let ino = c.args.ino in
    let finds = finds_in s ino (option_map (λ o. (o.0, o.1.now)) c.file_among.result) c.deref.result.now c.deref-2.result.now c.deref.ensures.value c.deref-2.ensures.value c.file_among.ensures in
    let file = c.unwrap-file.result.0 in
    let l = c.unwrap-file.result.1.now in
    let here = has_file v s ino file l c.self.view_is c.self.invariant (found_at s.stock s.laid.items s.made.items ino c.file_among.result c.unwrap-file.result finds c.unwrap-file.ensures) in
    here.is.slot

pub invariant_of-self : goal.invariant_of-self
invariant_of-self c =
    let s = c.self.inside in
    let v = c.args.self.now in
    let ino = c.args.ino in
    let finds = finds_in s ino (option_map (λ o. (o.0, o.1.now)) c.file_among.result) c.deref.result.now c.deref-2.result.now c.deref.ensures.value c.deref-2.ensures.value c.file_among.ensures in
    let file = c.unwrap-file.result.0 in
    let l = c.unwrap-file.result.1.now in
    let here = has_file v s ino file l c.self.view_is c.self.invariant (found_at s.stock s.laid.items s.made.items ino c.file_among.result c.unwrap-file.result finds c.unwrap-file.ensures) in
    let on = c.args.on in
    let b' = c.guard_file.new.stock in
    let found = found_at s.stock s.laid.items s.made.items ino c.file_among.result c.unwrap-file.result finds c.unwrap-file.ensures in
    let leaves = guard_leaves s.stock b' on file c.guard_file.ensures.guarded in
    let is = guard_done s.stock b' on file l here.is here.has c.guard_file.ensures.guarded c.guard_file.ensures.has c.guard_file.ensures.full c.guard_file.ensures.whole c.guard_file.ensures.others in
    let relaid = relaid_here (GuardDone s.stock b' on) s.stock s.laid.items s.made.items ino file l found is in
    let shows = shows_view v s c.self.view_is in
    let plain = file_plain (open_kind v ino) c.requires in
    let there = is_there v (files_in s) ino shows (plain_some (open_kind v ino) plain) in
    let kept = kept_guard s.placed s.reads.items s.stock b' s.laid.items s.made.items s.cleared.items s.dirs.items on ino leaves c.self.invariant.0 c.self.invariant.3 c.self.invariant.4 relaid
    (λ x one same. plain_kind (open_kind v ino) x.kind plain (kind_shows v s.placed s.reads.items (files_in s) ino shows c.self.invariant.0 c.self.invariant.3 there x one same)) in
    let chain = chain_at s.stock file l in
    let anew = relaid_here (IsAnew s.stock b' chain) s.stock s.laid.items s.made.items ino file l found (record { is = is.laid; has = is.has; now = is.chain; others = is.others }) in (
      laid_relaid s.stock b' s.laid.items s.laid.items s.made.items s.made.items ino chain leaves c.self.invariant.0 anew,
      rw (pages_left s.stock b' leaves) c.self.invariant.1,
      c.self.invariant.2,
      kept.0,
      kept.1,
      c.self.invariant.5,
      c.self.invariant.6,
    )

pub returns : goal.returns
unfolding set_guard
returns c =
    let s = c.self.inside in
    let v = c.args.self.now in
    let ino = c.args.ino in
    let finds = finds_in s ino (option_map (λ o. (o.0, o.1.now)) c.file_among.result) c.deref.result.now c.deref-2.result.now c.deref.ensures.value c.deref-2.ensures.value c.file_among.ensures in
    let file = c.unwrap-file.result.0 in
    let l = c.unwrap-file.result.1.now in
    let here = has_file v s ino file l c.self.view_is c.self.invariant (found_at s.stock s.laid.items s.made.items ino c.file_among.result c.unwrap-file.result finds c.unwrap-file.ensures) in
    let on = c.args.on in
    let b' = c.guard_file.new.stock in
    let found = found_at s.stock s.laid.items s.made.items ino c.file_among.result c.unwrap-file.result finds c.unwrap-file.ensures in
    let leaves = guard_leaves s.stock b' on file c.guard_file.ensures.guarded in
    let seen : SessionSeen → Parcel = λ x. with_body_at (home_in x ino) (body_guarded on (body_in x ino)) s.stock in
    let edit : b' ≡ with_body_at (home_in v ino) (body_guarded on (body_in v ino)) s.stock =
    c.guard_file.ensures.guarded ∙ ap (λ h. with_body_at h (body_guarded on (body_at s.stock file)) s.stock) here.home ∙ ap (λ w. with_body_at (home_in v ino) (body_guarded on w) s.stock) here.body in
    view_left s b' leaves
    ∙ ap (λ (b : Parcel). record (the_view s) { parcel = b }) (edit ∙ ap seen (sym c.self.view_is))
    ∙ ap (λ (x : SessionSeen). set_guard ino on x) c.self.view_is
