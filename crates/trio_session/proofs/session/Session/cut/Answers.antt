use Rattle.trio_session.proofs.Words.{◌<◌, ◌∙◌, ◌≡◌, ◌≤◌, Chain, CutDone, Home, IsRelaid, List, MadeFile, Parcel, Regular, SessionSeen, Some, ap, block_count, body_at, body_in, chain_at, chain_cut, chain_in, cut_file, home_in, is_some, length, length-map, made_seen, map, refl, size_in, subst, sym, with_chain, ℕ, open_kind}
use Rattle.trio_session.specs.Seen.{cut}
use Rattle.trio_session.specs.contracts.session.Session.{the_view}
use Rattle.trio_session.proofs.Chained.{IsAnew, kind_shows, laid_relaid, made_many, relaid_as, relaid_edit, shown_anew}
use Rattle.trio_session.proofs.Insides.{files_in, view_shows}
use Rattle.trio_session.proofs.Opens.{has_file, is_there, leaves_place, made_left, pages_left, plain_kind, plain_some, shows_view}
use Rattle.trio_session.proofs.Resized.{cut_leaves_files, kept_cut}
use Rattle.trio_session.proofs.session.Session.cut.Goals as goal

pub cut_one-requires-clause-there : goal.cut_one-requires-clause-there
cut_one-requires-clause-there c =
    let s = c.self.inside in
    is_there c.args.self.now (files_in s) c.args.ino (shows_view c.args.self.now s c.self.view_is) (plain_some (open_kind c.args.self.now c.args.ino) c.requires.open)

pub cut_one-requires-clause-may : goal.cut_one-requires-clause-may
cut_one-requires-clause-may c = λ file l found.
    let s = c.self.inside in
    let here = has_file c.args.self.now s c.args.ino file l c.self.view_is c.self.invariant found in
    record { laid = here.is; has = here.has; less = subst (λ w. c.args.size ≤ size_in w) (sym here.body) c.requires.size }

pub invariant_of-self : goal.invariant_of-self
invariant_of-self c =
    let s = c.self.inside in
    let v = c.args.self.now in
    let ino = c.args.ino in
    let size = c.args.size in
    let b = s.stock in
    let b' = c.cut_one.new.stock in
    let ls' = c.cut_one.new.laid.items in
    let ms' = c.cut_one.new.made.items in
    let shows = shows_view v s c.self.view_is in
    let leaves = cut_leaves_files b b' size s.laid.items ls' s.made.items ms' ino c.cut_one.ensures.relaid in
    let there = is_there v (files_in s) ino shows (plain_some (open_kind v ino) c.requires.open) in
    let kept = kept_cut s.placed s.reads.items b b' s.laid.items ls' s.made.items ms' s.cleared.items s.dirs.items size ino c.self.invariant.0 c.self.invariant.3 c.self.invariant.4 c.cut_one.ensures.relaid
    (λ x one same. plain_kind (open_kind v ino) x.kind c.requires.open (kind_shows v s.placed s.reads.items (files_in s) ino shows c.self.invariant.0 c.self.invariant.3 there x one same)) in
    let chain = chain_cut (chain_in v ino) (block_count size) in
    let anew = relaid_as (CutDone b b' size) (IsAnew b b' chain) b s.laid.items ls' s.made.items ms' ino (λ file l l' found done. record {
      is = done.laid;
      has = done.has;
      now = done.chain ∙ ap (λ (ch : Chain). chain_cut ch (block_count size)) (has_file v s ino file l c.self.view_is c.self.invariant found).chain;
      others = done.others;
    }) c.cut_one.ensures.relaid in (
      laid_relaid b b' s.laid.items ls' s.made.items ms' ino chain leaves c.self.invariant.0 anew,
      rw (pages_left b b' leaves) c.self.invariant.1,
      c.self.invariant.2,
      kept.0,
      kept.1,
      rw (made_many (CutDone b b' size) b s.laid.items ls' s.made.items ms' ino c.cut_one.ensures.relaid) c.self.invariant.5,
      c.self.invariant.6,
    )

pub returns-clause-kept : goal.returns-clause-kept
unfolding cut
returns-clause-kept c =
    let s = c.self.inside in
    let v = c.args.self.now in
    let u = the_view s in
    let ino = c.args.ino in
    let size = c.args.size in
    let b = s.stock in
    let b' = c.cut_one.new.stock in
    let ls' = c.cut_one.new.laid.items in
    let ms' = c.cut_one.new.made.items in
    let leaves = cut_leaves_files b b' size s.laid.items ls' s.made.items ms' ino c.cut_one.ensures.relaid in
    let chain = chain_cut (chain_in u ino) (block_count size) in
    let anew = relaid_as (CutDone b b' size) (IsAnew b b' chain) b s.laid.items ls' s.made.items ms' ino (λ file l l' found done. record {
      is = done.laid;
      has = done.has;
      now = done.chain ∙ ap (λ (ch : Chain). chain_cut ch (block_count size)) (has_file u s ino file l refl c.self.invariant found).chain;
      others = done.others;
    }) c.cut_one.ensures.relaid in
    let ks = map (made_seen b') s.cleared.items in
    let one : SessionSeen = record u { cleared = ks } in
    let now = record s { stock = b'; laid = c.cut_one.new.laid; made = c.cut_one.new.made } in
    let room = (the_view now).room in
    let gone = made_left b b' s.cleared.items leaves in
    let shown = shown_anew one s.reads.items (files_in s) b' ls' ms' ino chain (record { parcel = refl; chains = refl; made = refl; cleared = gone }) c.self.invariant.0 c.self.invariant.3.numbered leaves anew in
    let edit = relaid_edit (CutDone b b' size) b s.laid.items ls' s.made.items ms' ino c.cut_one.ensures.relaid in
    let here = has_file u s ino edit.0 edit.1 refl c.self.invariant edit.3 in
    let parcel : b' ≡ cut_file (home_in u ino) (chain_in u ino) (body_in u ino) size b =
    edit.4.edit ∙ ap (λ h. cut_file h (chain_at b edit.0 edit.1) (body_at b edit.0) size b) here.home
    ∙ ap (λ (ch : Chain). cut_file (home_in u ino) ch (body_at b edit.0) size b) here.chain ∙ ap (λ w. cut_file (home_in u ino) (chain_in u ino) w size b) here.body in
    ap (λ (x : SessionSeen). record x { parcel = b'; room = room }) (shown ∙ ap (λ k. with_chain ino chain (record u { cleared = k })) gone)
    ∙ ap (λ (p : Parcel). record (with_chain ino chain u) { parcel = p; room = room }) parcel
    ∙ ap (λ (x : SessionSeen). record (cut ino size x) { room = room }) c.self.view_is

pub returns-clause-place : goal.returns-clause-place
returns-clause-place c =
    let s = c.self.inside in
    let b' = c.cut_one.new.stock in
    let many = made_many (CutDone s.stock b' c.args.size) s.stock s.laid.items c.cut_one.new.laid.items s.made.items c.cut_one.new.made.items c.args.ino c.cut_one.ensures.relaid in
    leaves_place c.args.self.now s b' c.cut_one.new.made c.self.view_is (length-map c.cut_one.new.made.items (made_seen b') ∙ many) c.cut_one.ensures.places
