use Rattle.trio_session.proofs.Words.{if◌then◌else◌, ◌++◌, ◌+◌, ◌-◌, ◌<◌, ◌∙◌, ◌∷◌, ◌≡◌, ◌≤◌, AreDirs, AreMade, Bool, Chain, IsMadeAt, List, Made, MadeFile, Parcel, SessionSeen, [], ap, are_new, arith, chain_at, eqb, file_of, filter, is_allotted, length, length-append, length-map, made_seen, map, map-append, min, number_at, placed_made, refl, subst, sym, true, vec_capacity, with_made, ℕ}
use Rattle.std.proofs.Common.{not}
use Rattle.trio_session.specs.contracts.session.Session.{the_view}
use Rattle.trio_session.proofs.Added.{chain_kept, found_last, kept_added, less_many, less_shown, uncleared}
use Rattle.trio_session.proofs.Kept.{files_of}
use Rattle.trio_session.proofs.Opens.{room_found, shows_view}
use Rattle.trio_session.proofs.Owners.{are_new-parts}
use Rattle.trio_session.proofs.session.Session.add_made.Goals as goal

pub invariant_of-self : goal.invariant_of-self
invariant_of-self c =
    let s = c.self.inside in
    let v = c.args.self.now in
    let ms = s.made.items in
    let cs = s.cleared.items in
    let cs' = c.take_laid-laid.new.cleared.items in
    let m : Made = record { ino = c.args.ino; kind = c.args.kind; page = c.args.page; slot = c.args.slot; laid = c.take_laid-laid.result } in
    let takes = c.take_laid-laid.ensures.taken in
    let kept = kept_added v s.placed s.reads.items s.stock s.laid.items ms cs cs' m (shows_view v s c.self.view_is) (sym (ap (λ (x : SessionSeen). x.reads) c.self.view_is)) c.self.invariant.0 c.self.invariant.3
    c.requires takes s.dirs.items c.self.invariant.4 in
    let P : List Made → Type 0 = λ xs. AreMade s.placed s.reads.items (files_of s.stock s.laid.items xs cs') × AreDirs s.reads.items (files_of s.stock s.laid.items xs cs') s.dirs.items in
    let both : P c.push_reserved.new.self.items = subst P (sym c.push_reserved.ensures.items) kept in
    let less = less_many cs cs' m.ino m.laid takes in
    let more : length c.push_reserved.new.self.items ≡ length (ms ++ m ∷ []) = ap (λ (xs : List Made). length xs) c.push_reserved.ensures.items in
    let added : length (ms ++ m ∷ []) ≡ length ms + 1 = rw length-append refl in
    let places = c.take_laid-laid.ensures.places in
    let room : length (map (made_seen s.stock) ms) < min (vec_capacity s.made) (vec_capacity s.cleared - length cs) = subst (λ (x : SessionSeen). length x.made < x.room.made) (sym c.self.view_is) c.requires.may.place in
    let many = length-map ms (made_seen s.stock) in
    (c.self.invariant.0, c.self.invariant.1, c.self.invariant.2, both.0, both.1, omega (arith, less, more, added, places, room, many), c.take_laid-laid.ensures.next)

pub returns-clause-next : goal.returns-clause-next
returns-clause-next c = λ new.
    let s = c.self.inside in
    let v = c.args.self.now in
    let ms = s.made.items in
    let cs = s.cleared.items in
    let cs' = c.take_laid-laid.new.cleared.items in
    let m : Made = record { ino = c.args.ino; kind = c.args.kind; page = c.args.page; slot = c.args.slot; laid = c.take_laid-laid.result } in
    let takes = c.take_laid-laid.ensures.taken in
    let shows = shows_view v s c.self.view_is in
    let kept = kept_added v s.placed s.reads.items s.stock s.laid.items ms cs cs' m shows (sym (ap (λ (x : SessionSeen). x.reads) c.self.view_is)) c.self.invariant.0 c.self.invariant.3
    c.requires takes s.dirs.items c.self.invariant.4 in
    let after = record s { made = c.push_reserved.new.self; cleared = c.take_laid-laid.new.cleared; next = c.take_laid-laid.new.next } in
    room_found (the_view after) after m.ino (file_of m) m.laid refl (found_last s.stock s.laid.items ms cs' m c.push_reserved.new.self.items c.push_reserved.ensures.items kept.0.numbered.once)
    ∙ c.take_laid-laid.ensures.room (uncleared v s.stock s.laid.items ms cs m.ino shows new)
    ∙ ap (λ (x : SessionSeen). x.room.next_blocks) c.self.view_is

pub returns-clause-kept : goal.returns-clause-kept
returns-clause-kept c =
    let s = c.self.inside in
    let v = c.args.self.now in
    let u = the_view s in
    let b = s.stock in
    let f = made_seen b in
    let ms = s.made.items in
    let cs = s.cleared.items in
    let cs' = c.take_laid-laid.new.cleared.items in
    let m : Made = record { ino = c.args.ino; kind = c.args.kind; page = c.args.page; slot = c.args.slot; laid = c.take_laid-laid.result } in
    let takes = c.take_laid-laid.ensures.taken in
    let chain : chain_at b (file_of m) m.laid ≡ (placed_made v m.ino m.kind (number_at b m.page) m.slot).chain =
    chain_kept v s.placed s.reads.items b s.laid.items ms cs cs' m (shows_view v s c.self.view_is) (sym (ap (λ (x : SessionSeen). x.reads) c.self.view_is)) c.self.invariant.0 c.self.invariant.3 c.requires takes in
    let seen : Chain → MadeFile = λ ch. record { ino = m.ino; kind = m.kind; page = number_at b m.page; slot = m.slot; chain = ch } in
    let one : f m ≡ placed_made u m.ino m.kind (number_at u.parcel m.page) m.slot =
    ap seen chain ∙ ap (λ (x : SessionSeen). placed_made x m.ino m.kind (number_at b m.page) m.slot) (sym c.self.view_is) in
    let made : map f c.push_reserved.new.self.items ≡ u.made ++ placed_made u m.ino m.kind (number_at u.parcel m.page) m.slot ∷ [] =
    ap (map f) c.push_reserved.ensures.items ∙ map-append f ms (m ∷ []) ∙ ap (λ x. map f ms ++ x ∷ []) one in
    let key : Made → ℕ = λ k. k.ino in
    let once = (are_new-parts (map key ms) (map key cs) (ap (are_new []) (sym (map-append key ms cs)) ∙ c.self.invariant.3.numbered.once)).0 in
    let cleared : map f cs' ≡ filter (λ x. not (eqb x.ino m.ino)) u.cleared = less_shown cs cs' m.ino m.laid takes b once in
    let all = record s { made = c.push_reserved.new.self; cleared = c.take_laid-laid.new.cleared; next = c.take_laid-laid.new.next } in
    let room = (the_view all).room in
    let w : List MadeFile → List MadeFile → SessionSeen = λ xs ys. record u { made = xs; cleared = ys; room = room } in
    let allotted : is_allotted u m.ino ≡ true = ap (λ (x : SessionSeen). is_allotted x m.ino) c.self.view_is ∙ c.requires.allotted in
    let added : SessionSeen = record u { made = u.made ++ placed_made u m.ino m.kind (number_at u.parcel m.page) m.slot ∷ []; cleared = filter (λ x. not (eqb x.ino m.ino)) u.cleared } in
    ap (λ xs. w xs (map f cs')) made
    ∙ ap (w (u.made ++ placed_made u m.ino m.kind (number_at u.parcel m.page) m.slot ∷ [])) cleared
    ∙ sym (ap (λ t. record (if t then added else u) { room = room }) allotted)
    ∙ ap (λ (x : SessionSeen). record (with_made m.ino m.kind (number_at x.parcel m.page) m.slot x) { room = room }) c.self.view_is
