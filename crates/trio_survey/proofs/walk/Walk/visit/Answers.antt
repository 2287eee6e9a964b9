use Rattle.trio_survey.proofs.Words.{◌++◌, ◌+◌, ◌<◌, ◌∙◌, ◌∷◌, ◌≡◌, [], IsListedBefore, Stands, ap, arith, false≢true, framed, get_or, get_or-map, heads_of, length, length-map, map, met_seen, nowhere, pick_of, subst, sym, take, take_more}
use Rattle.trio_rights.specs.ByKind.{is_directory}
use Rattle.trio_survey.proofs.OldFiles.{leaves_by, leaves_old, old_more}
use Rattle.trio_survey.proofs.ListedAgain.{guarded_again, known_again, knows_again, some_there, stands_again, tabled_again}
use Rattle.trio_survey.proofs.Tables.{met_below, met_some}
use Rattle.trio_survey.proofs.walk.Walk.visit.Goals as goal
use Rattle.trio_survey.proofs.walk.Walk.visit.Goals.{else-frame-via-then-frame+else-body, else-frame-via-else-frame}

pub set-requires-clause-from_one : goal.set-requires-clause-from_one
set-requires-clause-from_one c =
    let items = c.args.self.now.files.items in
    let files = map met_seen items in
    let m = met_seen c.index.result.now in
    let inside : c.args.at < length files = omega (arith, length-map items met_seen) in
    let at : get_or files c.args.at m ≡ m = get_or-map met_seen items c.args.at c.index.result.now m (omega arith) ∙ ap met_seen (sym c.index.ensures) in
    met_some files c.args.at m inside at c.requires.stands.some

pub set-requires-clause-within : goal.set-requires-clause-within
set-requires-clause-within c =
    let items = c.args.self.now.files.items in
    let files = map met_seen items in
    let m = met_seen c.index.result.now in
    let inside : c.args.at < length files = omega (arith, length-map items met_seen) in
    let at : get_or files c.args.at m ≡ m = get_or-map met_seen items c.args.at c.index.result.now m (omega arith) ∙ ap met_seen (sym c.index.ensures) in
    omega (arith, met_below (c.args.frame.now.inodes + 1) files c.args.at m inside at c.requires.stands.fit, c.requires.tables.many_rows)

pub returns-in-Some-clause-stands : goal.returns-in-Some-clause-stands
returns-in-Some-clause-stands c =
    let core = framed c.args.home.now.pages c.args.frame.now in
    let pick = pick_of c.args.picks.now in
    let walk = c.args.self.now in
    let files = map met_seen walk.files.items in
    let m = met_seen c.index.result.now in
    let inside : c.args.at < length files = omega (arith, length-map walk.files.items met_seen) in
    let at : get_or files c.args.at m ≡ m = get_or-map met_seen walk.files.items c.args.at c.index.result.now m (omega arith) ∙ ap met_seen (sym c.index.ensures) in
    let heads = heads_of walk.heads (is_directory m.kind) in
    let listed : IsListedBefore c.args.frame.now.range heads m c.in-Some.body = rw c.of.ensures at c.in-Some.ensures in
    let it = some_there walk.repeated (sym c.is_some.ensures ∙ c.if-is_some.true) in
    subst (λ twice. Stands core pick (c.args.at + 1) files walk.met.items walk.used.items twice) (sym it.1)
    (stands_again core pick c.args.at files walk.met.items walk.used.items it.0 heads m c.in-Some.body inside at
    (subst (λ twice. Stands core pick c.args.at files walk.met.items walk.used.items twice) it.1 c.requires.stands) (c.requires.heads (is_directory m.kind)) listed)

pub returns-in-Some-clause-tables : goal.returns-in-Some-clause-tables
returns-in-Some-clause-tables c =
    let core = framed c.args.home.now.pages c.args.frame.now in
    let pick = pick_of c.args.picks.now in
    let walk = c.args.self.now in
    let files = map met_seen walk.files.items in
    let m = met_seen c.index.result.now in
    let inside : c.args.at < length files = omega (arith, length-map walk.files.items met_seen) in
    let at : get_or files c.args.at m ≡ m = get_or-map met_seen walk.files.items c.args.at c.index.result.now m (omega arith) ∙ ap met_seen (sym c.index.ensures) in
    let heads = heads_of walk.heads (is_directory m.kind) in
    let listed : IsListedBefore c.args.frame.now.range heads m c.in-Some.body = rw c.of.ensures at c.in-Some.ensures in
    let it = some_there walk.repeated (sym c.is_some.ensures ∙ c.if-is_some.true) in
    rw (c.set.ensures, c.row_of.ensures)
    (tabled_again core pick c.args.at files walk.met.items walk.used.items it.0 heads m c.in-Some.body inside at
    (subst (λ twice. Stands core pick c.args.at files walk.met.items walk.used.items twice) it.1 c.requires.stands) (c.requires.heads (is_directory m.kind)) listed walk.owners walk.rows c.requires.tables)

pub returns-in-Some-clause-heads : goal.returns-in-Some-clause-heads
returns-in-Some-clause-heads c =
    let core = framed c.args.home.now.pages c.args.frame.now in
    let walk = c.args.self.now in
    let files = map met_seen walk.files.items in
    let m = met_seen c.index.result.now in
    let inside : c.args.at < length files = omega (arith, length-map walk.files.items met_seen) in
    let at : get_or files c.args.at m ≡ m = get_or-map met_seen walk.files.items c.args.at c.index.result.now m (omega arith) ∙ ap met_seen (sym c.index.ensures) in
    knows_again core c.args.at files walk.heads m inside at c.requires.heads

pub returns-in-Some-clause-old : goal.returns-in-Some-clause-old
returns-in-Some-clause-old c =
    let core = framed c.args.home.now.pages c.args.frame.now in
    let pick = pick_of c.args.picks.now in
    let walk = c.args.self.now in
    let files = map met_seen walk.files.items in
    let m = met_seen c.index.result.now in
    let inside : c.args.at < length files = omega (arith, length-map walk.files.items met_seen) in
    let at : get_or files c.args.at m ≡ m = get_or-map met_seen walk.files.items c.args.at c.index.result.now m (omega arith) ∙ ap met_seen (sym c.index.ensures) in
    let heads = heads_of walk.heads (is_directory m.kind) in
    let listed : IsListedBefore c.args.frame.now.range heads m c.in-Some.body = rw c.of.ensures at c.in-Some.ensures in
    let it = some_there walk.repeated (sym c.is_some.ensures ∙ c.if-is_some.true) in
    let stands = subst (λ twice. Stands core pick c.args.at files walk.met.items walk.used.items twice) it.1 c.requires.stands in
    let asked = c.args.frame.now.old in
    let more : take (c.args.at + 1) files ≡ take c.args.at files ++ m ∷ [] = take_more files c.args.at m inside ∙ ap (λ x. take c.args.at files ++ x ∷ []) at in
    rw more (old_more asked core (take c.args.at files) m c.requires.old
    (known_again core pick c.args.at files walk.met.items walk.used.items it.0 heads m c.in-Some.body inside at stands (c.requires.heads (is_directory m.kind)) listed asked c.requires.old (λ it.
    elim c.else-frame.branch [
      | else-frame-via-then-frame+else-body w ↦ w.if-body.false
      | else-frame-via-else-frame w ↦ absurd (false≢true (sym w.if-frame.false ∙ it))
    ])))

pub returns-then-body-clause-fault : goal.returns-then-body-clause-fault
returns-then-body-clause-fault c =
    let core = framed c.args.home.now.pages c.args.frame.now in
    let pick = pick_of c.args.picks.now in
    let walk = c.args.self.now in
    let files = map met_seen walk.files.items in
    let m = met_seen c.index.result.now in
    let inside : c.args.at < length files = omega (arith, length-map walk.files.items met_seen) in
    let at : get_or files c.args.at m ≡ m = get_or-map met_seen walk.files.items c.args.at c.index.result.now m (omega arith) ∙ ap met_seen (sym c.index.ensures) in
    let heads = heads_of walk.heads (is_directory m.kind) in
    let listed : IsListedBefore c.args.frame.now.range heads m c.in-Some.body = rw c.of.ensures at c.in-Some.ensures in
    let it = some_there walk.repeated (sym c.is_some.ensures ∙ c.if-is_some.true) in
    let stands = subst (λ twice. Stands core pick c.args.at files walk.met.items walk.used.items twice) it.1 c.requires.stands in
    rw c.leaves_grammar.ensures (leaves_by c.args.frame.now.old core pick m.ino nowhere c.if-frame.true
    (leaves_old core pick c.args.at files walk.met.items walk.used.items walk.repeated m nowhere c.requires.stands inside at (c.requires.old c.if-frame.true)
    (guarded_again core pick c.args.at files walk.met.items walk.used.items it.0 heads m c.in-Some.body inside at stands (c.requires.heads (is_directory m.kind)) listed c.if-body.true)))
