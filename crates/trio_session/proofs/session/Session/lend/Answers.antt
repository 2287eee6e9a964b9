use Rattle.trio_session.proofs.Words.{◌<◌, ◌∙◌, ◌≡◌, ◌≤◌, AfterGrant, AreApart, AreDirs, AreLaid, AreMade, Denied, Grant, Granted, In, IsOn, Laid, Lent, List, NoGrant, NotLent, NotMade, OneCall, Parcel, SessionSeen, Shown, TellsGrant, ap, bundled, chains_laid, has_out, length, made_seen, map, parcel_of, reads_leased, refl, subst, sym, vec_capacity, with_lease, with_leased, IsBlank}
use Rattle.trio_desk.specs.Calls.{Made}
use Rattle.std.specs.Prelude.{◌+◌}
use Rattle.trio_session.proofs.Kept.{files_of}
use Rattle.trio_session.proofs.Leased.{kept_leased, seen_leased, unused_granted}
use Rattle.trio_session.specs.inner.Giving.{Grants, NoPlace}
use Rattle.trio_session.specs.contracts.session.Session.{the_view}
use Rattle.trio_session.proofs.Needs.{lease_apart, lease_laid, lease_pages, lease_view, lease_on}
use Rattle.trio_session.proofs.Desks.{on_still, on_room}
use Rattle.trio_session.proofs.session.Session.lend.Goals as goal

pub of_parts-requires : goal.of_parts-requires
of_parts-requires g c =
    let p = c.self.inside.stock in
    let p' = parcel_of (bundled c.grant_into-answer.new.parts) in
    let ls = c.self.inside.laid.items in
    let ms = c.self.inside.made.items in
    let cs = c.self.inside.cleared.items in
    let ds = c.self.inside.dirs.items in
    let seen = g.D.Desk.seen c.args.desk.now in
    let old : parcel_of (bundled c.into_parts-parts.result) ≡ p = c.into_parts-parts.ensures.parts ∙ c.replace.ensures.value in
    let ls' = c.grant_into-answer.new.laid.items in
    let rs = c.self.inside.reads.items in
    let rs' = c.grant_into-answer.new.reads.items in
    let d' = g.D.Desk.seen c.grant_into-answer.new.desk in
    let on : IsOn seen c.args.self.now = c.requires in
    let outcome = subst (λ q. Grants g.D.Desk.called g.D.Desk.seen c.args.desk.now c.args.ino c.args.kind c.grant_into-answer.new.desk q p' rs rs' ls ls' c.grant_into-answer.result) old c.grant_into-answer.ensures in
    let apart : AreApart p = subst AreApart c.replace.ensures.value c.into_parts-parts.ensures.apart in
    elim outcome [
      | Granted lease called seen' fresh lent cause kp kr kl ok ↦ subst AreApart (sym kp) (lease_apart p lease seen.lib c.args.ino seen.sizes seen.out apart fresh
          (on.out.writes ∙ ap (λ (s : SessionSeen). (has_out s).writes) (sym c.self.view_is))
          (λ n i. (on.out.pages n).1 (subst (λ (s : SessionSeen). In n (has_out s).pages) c.self.view_is i)) c.self.invariant.0.same)
      | Denied fault called seen' holder cause kp kr kl err ↦ subst AreApart (sym kp) apart
      | NoPlace same kp kr kl err ↦ subst AreApart (sym kp) apart
    ]

pub invariant_of-self : goal.invariant_of-self
invariant_of-self g c =
    let p = c.self.inside.stock in
    let p' = parcel_of (bundled c.grant_into-answer.new.parts) in
    let ls = c.self.inside.laid.items in
    let ms = c.self.inside.made.items in
    let cs = c.self.inside.cleared.items in
    let ds = c.self.inside.dirs.items in
    let seen = g.D.Desk.seen c.args.desk.now in
    let old : parcel_of (bundled c.into_parts-parts.result) ≡ p = c.into_parts-parts.ensures.parts ∙ c.replace.ensures.value in
    let ls' = c.grant_into-answer.new.laid.items in
    let rs = c.self.inside.reads.items in
    let rs' = c.grant_into-answer.new.reads.items in
    let d' = g.D.Desk.seen c.grant_into-answer.new.desk in
    let on : IsOn seen c.args.self.now = c.requires in
    let outcome = subst (λ q. Grants g.D.Desk.called g.D.Desk.seen c.args.desk.now c.args.ino c.args.kind c.grant_into-answer.new.desk q p' rs rs' ls ls' c.grant_into-answer.result) old c.grant_into-answer.ensures in
    let now : c.replace-2.new.dest ≡ p' = c.replace-2.ensures.after ∙ c.of_parts.ensures in
    let view : Parcel → List Shown → List Laid → SessionSeen = λ x reads laid. record (the_view c.self.inside) { parcel = x; chains = chains_laid x.writes x.pages laid; made = map (made_seen x) ms; cleared = map (made_seen x) cs; reads = reads; room = (the_view (record c.self.inside { laid = c.grant_into-answer.new.laid })).room } in
    let room = (view p rs ls).room in
    let s = c.args.self.now in
    let first : SessionSeen = the_view c.self.inside in
    let still : view p rs ls ≡ record s { room = room } = ap (λ (x : SessionSeen). record x { room = room }) c.self.view_is in
    let P : Parcel → List Shown → List Laid → Type 0 = λ x reads laid. AreLaid x laid × (c.self.inside.placed ≤ length x.pages) × (length c.self.inside.calls.items < 4294967296)
    × AreMade c.self.inside.placed reads (files_of x laid ms cs) × AreDirs reads (files_of x laid ms cs) ds × (length ms + length cs ≤ vec_capacity c.self.inside.cleared) × IsBlank c.self.inside.next in
    subst (λ x. P x rs' ls') (sym now)
    (elim outcome [
      | Granted lease called seen' fresh lent cause kp kr kl ok ↦
          let apart = lease_apart p lease seen.lib c.args.ino seen.sizes seen.out c.self.invariant.3.apart fresh
          (on.out.writes ∙ ap (λ (s : SessionSeen). (has_out s).writes) (sym c.self.view_is))
          (λ n i. (on.out.pages n).1 (subst (λ (s : SessionSeen). In n (has_out s).pages) c.self.view_is i)) c.self.invariant.0.same in
          let unused = unused_granted seen first c.args.ino lease (subst (IsOn seen) (sym c.self.view_is) on) fresh cause c.self.invariant.0.same in
          let both = kept_leased c.self.inside.placed rs p ls ls' ms cs ds lease c.args.ino seen.lib seen.sizes seen.out fresh kl unused c.self.invariant.0 c.self.invariant.3 c.self.invariant.4 apart in
          subst (λ x. P x rs' ls') (sym kp) (subst (λ xs. P (with_leased p lease) xs ls') (sym kr)
          (lease_laid p ls ls' lease seen.lib c.args.ino seen.sizes seen.out fresh kl c.self.invariant.0, rw (lease_pages p lease) c.self.invariant.1, c.self.invariant.2, both.0, both.1, c.self.invariant.5, c.self.invariant.6))
      | Denied fault called seen' holder cause kp kr kl err ↦ subst (λ x. P x rs' ls') (sym kp) (subst (λ xs. P p xs ls') (sym kr) (subst (P p rs) (sym kl) c.self.invariant))
      | NoPlace same kp kr kl err ↦ subst (λ x. P x rs' ls') (sym kp) (subst (λ xs. P p xs ls') (sym kr) (subst (P p rs) (sym kl) c.self.invariant))
    ])

pub returns-clause-call : goal.returns-clause-call
returns-clause-call g c =
    let p = c.self.inside.stock in
    let p' = parcel_of (bundled c.grant_into-answer.new.parts) in
    let ls = c.self.inside.laid.items in
    let ms = c.self.inside.made.items in
    let cs = c.self.inside.cleared.items in
    let ds = c.self.inside.dirs.items in
    let seen = g.D.Desk.seen c.args.desk.now in
    let old : parcel_of (bundled c.into_parts-parts.result) ≡ p = c.into_parts-parts.ensures.parts ∙ c.replace.ensures.value in
    let ls' = c.grant_into-answer.new.laid.items in
    let rs = c.self.inside.reads.items in
    let rs' = c.grant_into-answer.new.reads.items in
    let d' = g.D.Desk.seen c.grant_into-answer.new.desk in
    let on : IsOn seen c.args.self.now = c.requires in
    let outcome = subst (λ q. Grants g.D.Desk.called g.D.Desk.seen c.args.desk.now c.args.ino c.args.kind c.grant_into-answer.new.desk q p' rs rs' ls ls' c.grant_into-answer.result) old c.grant_into-answer.ensures in
    let now : c.replace-2.new.dest ≡ p' = c.replace-2.ensures.after ∙ c.of_parts.ensures in
    let view : Parcel → List Shown → List Laid → SessionSeen = λ x reads laid. record (the_view c.self.inside) { parcel = x; chains = chains_laid x.writes x.pages laid; made = map (made_seen x) ms; cleared = map (made_seen x) cs; reads = reads; room = (the_view (record c.self.inside { laid = c.grant_into-answer.new.laid })).room } in
    let room = (view p rs ls).room in
    let s = c.args.self.now in
    let first : SessionSeen = the_view c.self.inside in
    let still : view p rs ls ≡ record s { room = room } = ap (λ (x : SessionSeen). record x { room = room }) c.self.view_is in
    subst (λ (x : Parcel). OneCall g.D.Desk.called c.args.desk.now (Grant c.args.ino c.args.kind) c.grant_into-answer.new.desk
    (λ told. TellsGrant seen c.args.ino c.args.kind told d' × AfterGrant s c.grant_into-answer.result (view x rs' ls') told) (NoGrant s c.grant_into-answer.result (view x rs' ls'))) (sym now)
    (elim outcome [
      | Granted lease called seen' fresh lent cause kp kr kl ok ↦
          let apart = lease_apart p lease seen.lib c.args.ino seen.sizes seen.out c.self.invariant.3.apart fresh
          (on.out.writes ∙ ap (λ (s : SessionSeen). (has_out s).writes) (sym c.self.view_is))
          (λ n i. (on.out.pages n).1 (subst (λ (s : SessionSeen). In n (has_out s).pages) c.self.view_is i)) c.self.invariant.0.same in
          let unused = unused_granted seen first c.args.ino lease (subst (IsOn seen) (sym c.self.view_is) on) fresh cause c.self.invariant.0.same in
          let shown = seen_leased c.self.inside.placed rs p ls ls' ms cs ds lease c.args.ino seen.lib seen.sizes seen.out fresh kl unused c.self.invariant.0 c.self.invariant.3 c.self.invariant.4 apart in
          Made (Lent lease) called (
            record { seen = seen'; holder = tt; cause = cause; fits = (fresh, lent) },
            (
              ok,
              ap (λ x. view x rs' ls') kp ∙ ap (λ x. view (with_leased p lease) x ls') kr
                  ∙ ap (λ xs. record (view (with_leased p lease) (reads_leased rs lease) ls') { made = xs }) shown.0 ∙ ap (λ xs. record (view (with_leased p lease) (reads_leased rs lease) ls') { made = map (made_seen p) ms; cleared = xs }) shown.1
                  ∙ ap (λ (x : SessionSeen). record x { room = room }) (lease_view first ls ls' lease seen.lib c.args.ino seen.sizes seen.out fresh kl c.self.invariant.0 refl)
                  ∙ ap (λ (x : SessionSeen). record (with_lease x lease) { room = room }) c.self.view_is,
            ),
          )
      | Denied fault called seen' holder cause kp kr kl err ↦ Made (NotLent fault) called (record { seen = seen'; holder = holder; cause = cause; fits = tt }, (err, ap (λ x. view x rs' ls') kp ∙ ap (λ x. view p x ls') kr ∙ ap (view p rs) kl ∙ still))
      | NoPlace same kp kr kl err ↦ NotMade same (err, ap (λ x. view x rs' ls') kp ∙ ap (λ x. view p x ls') kr ∙ ap (view p rs) kl ∙ still)
    ])

pub returns-clause-on : goal.returns-clause-on
returns-clause-on g c =
    let p = c.self.inside.stock in
    let p' = parcel_of (bundled c.grant_into-answer.new.parts) in
    let ls = c.self.inside.laid.items in
    let ms = c.self.inside.made.items in
    let cs = c.self.inside.cleared.items in
    let ds = c.self.inside.dirs.items in
    let seen = g.D.Desk.seen c.args.desk.now in
    let old : parcel_of (bundled c.into_parts-parts.result) ≡ p = c.into_parts-parts.ensures.parts ∙ c.replace.ensures.value in
    let ls' = c.grant_into-answer.new.laid.items in
    let rs = c.self.inside.reads.items in
    let rs' = c.grant_into-answer.new.reads.items in
    let d' = g.D.Desk.seen c.grant_into-answer.new.desk in
    let on : IsOn seen c.args.self.now = c.requires in
    let outcome = subst (λ q. Grants g.D.Desk.called g.D.Desk.seen c.args.desk.now c.args.ino c.args.kind c.grant_into-answer.new.desk q p' rs rs' ls ls' c.grant_into-answer.result) old c.grant_into-answer.ensures in
    let now : c.replace-2.new.dest ≡ p' = c.replace-2.ensures.after ∙ c.of_parts.ensures in
    let view : Parcel → List Shown → List Laid → SessionSeen = λ x reads laid. record (the_view c.self.inside) { parcel = x; chains = chains_laid x.writes x.pages laid; made = map (made_seen x) ms; cleared = map (made_seen x) cs; reads = reads; room = (the_view (record c.self.inside { laid = c.grant_into-answer.new.laid })).room } in
    let room = (view p rs ls).room in
    let s = c.args.self.now in
    let first : SessionSeen = the_view c.self.inside in
    let still : view p rs ls ≡ record s { room = room } = ap (λ (x : SessionSeen). record x { room = room }) c.self.view_is in
    subst (λ (x : Parcel). IsOn d' (view x rs' ls')) (sym now)
    (elim outcome [
      | Granted lease called seen' fresh lent cause kp kr kl ok ↦
          let apart = lease_apart p lease seen.lib c.args.ino seen.sizes seen.out c.self.invariant.3.apart fresh
          (on.out.writes ∙ ap (λ (s : SessionSeen). (has_out s).writes) (sym c.self.view_is))
          (λ n i. (on.out.pages n).1 (subst (λ (s : SessionSeen). In n (has_out s).pages) c.self.view_is i)) c.self.invariant.0.same in
          let unused = unused_granted seen first c.args.ino lease (subst (IsOn seen) (sym c.self.view_is) on) fresh cause c.self.invariant.0.same in
          let shown = seen_leased c.self.inside.placed rs p ls ls' ms cs ds lease c.args.ino seen.lib seen.sizes seen.out fresh kl unused c.self.invariant.0 c.self.invariant.3 c.self.invariant.4 apart in
          subst (IsOn d') (sym (
          ap (λ x. view x rs' ls') kp ∙ ap (λ x. view (with_leased p lease) x ls') kr
          ∙ ap (λ xs. record (view (with_leased p lease) (reads_leased rs lease) ls') { made = xs }) shown.0 ∙ ap (λ xs. record (view (with_leased p lease) (reads_leased rs lease) ls') { made = map (made_seen p) ms; cleared = xs }) shown.1
          ∙ ap (λ (x : SessionSeen). record x { room = room }) (lease_view first ls ls' lease seen.lib c.args.ino seen.sizes seen.out fresh kl c.self.invariant.0 refl)
          ∙ ap (λ (x : SessionSeen). record (with_lease x lease) { room = room }) c.self.view_is))
          (lease_on seen d' c.args.ino c.args.kind s lease room seen' fresh on)
      | Denied fault called seen' holder cause kp kr kl err ↦ subst (IsOn d') (sym (ap (λ x. view x rs' ls') kp ∙ ap (λ x. view p x ls') kr ∙ ap (view p rs) kl ∙ still)) (on_room d' s room (on_still seen d' (Grant c.args.ino c.args.kind) (NotLent fault) s seen' refl on))
      | NoPlace same kp kr kl err ↦ subst (IsOn d') (sym (ap (λ x. view x rs' ls') kp ∙ ap (λ x. view p x ls') kr ∙ ap (view p rs) kl ∙ still)) (on_room d' s room (subst (λ d. IsOn (g.D.Desk.seen d) s) (sym same) on))
    ])
