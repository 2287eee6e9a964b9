use Rattle.trio_session.proofs.Words.{◌∙◌, ◌≡◌, Bool, Files, HoldParts, Kind, List, Made, MadeFile, None, Option, Parcel, SessionSeen, Shown, Some, [], ap, body_shown, cond, eqb, find, held_file, ino_numbers, is_allotted, is_among, made_body, made_file, made_seen, option_copied, option_map, option_map_or, option_or, read_file, refl, subst, sym, written_file, ℕ}
use Rattle.trio_session.proofs.Found.{position-same, slice_get-found}
use Rattle.trio_session.proofs.Insides.{files_in, view_shows}
use Rattle.trio_session.proofs.Seeing.{Shows, made_missing, made_shown, made_there}
use Rattle.trio_session.proofs.session.Session.moving.Goals as goal

-- the kind and the body that a file takes with it, by the file that was made, its number and the hold on it
abbrev moving_by : SessionSeen → Option MadeFile → Bool → Option HoldParts → Option (Kind × List ℕ)
moving_by s made allotted held =
    option_or (option_map (λ (m : MadeFile). (m.kind, made_body s m)) made) (cond allotted None (option_map (λ (h : HoldParts). (h.kind, h.body)) held))

moving_made : (s : SessionSeen) (ino : ℕ) (m : MadeFile) (body : List ℕ) → made_file s ino ≡ Some m → Some body ≡ body_shown s ino
    → Some (m.kind, body) ≡ moving_by s (made_file s ino) (is_allotted s ino) (held_file s ino)
moving_made s ino m body made has =
    let shown : body_shown s ino ≡ Some (made_body s m) =
    ap (λ (o : Option MadeFile). option_or (option_map (λ (k : Kind). option_map_or (made_body s) o (option_map_or (λ (f : Shown). f.body) (written_file s ino) []))
    (option_or (option_map (λ (x : MadeFile). x.kind) o) (option_map (λ (f : Shown). f.kind) (written_file s ino))))
    (option_or (option_map (λ (f : Shown). f.body) (read_file s ino)) (option_map (λ (h : HoldParts). h.body) (held_file s ino)))) made in
    let same : body ≡ made_body s m = (let e : Some body ≡ Some (made_body s m) = has ∙ shown in cc e) in
    ap (λ b. Some (m.kind, b)) same ∙ sym (ap (λ (o : Option MadeFile). moving_by s o (is_allotted s ino) (held_file s ino)) made)

moving_unmade : (s : SessionSeen) (ino : ℕ) (allotted : Bool) (held : Option HoldParts) → made_file s ino ≡ None → allotted ≡ is_allotted s ino → held ≡ held_file s ino
    → cond allotted None (option_map (λ (h : HoldParts). (h.kind, h.body)) held) ≡ moving_by s (made_file s ino) (is_allotted s ino) (held_file s ino)
moving_unmade s ino allotted held none number hold =
    sym (ap (λ (o : Option MadeFile). moving_by s o allotted held) none) ∙ ap (λ b. moving_by s (made_file s ino) b held) number ∙ ap (moving_by s (made_file s ino) (is_allotted s ino)) hold

unmade : (s : SessionSeen) (fs : Files) (ino : ℕ) (allotted : Bool) (held : Option HoldParts) → Shows s fs → made_file s ino ≡ None → allotted ≡ is_among ino (ino_numbers fs.parcel.inodes) → held ≡ find (λ h. eqb h.ino ino) fs.parcel.holds
    → cond allotted None (option_map (λ (h : HoldParts). (h.kind, h.body)) held) ≡ moving_by s (made_file s ino) (is_allotted s ino) (held_file s ino)
unmade s fs ino allotted held shows none number hold =
    moving_unmade s ino allotted held none (number ∙ ap (λ (b : Parcel). is_among ino (ino_numbers b.inodes)) (sym shows.parcel))
    (hold ∙ ap (λ (b : Parcel). find (λ (h : HoldParts). eqb h.ino ino) b.holds) (sym shows.parcel))

pub returns-in_ok-body-in-Some : goal.returns-in_ok-body-in-Some
returns-in_ok-body-in-Some c =
    let s = c.self.inside in
    let fs = files_in s in
    let shows = subst (λ v. Shows v fs) c.self.view_is (view_shows s) in
    let p : Made → Bool = λ m. eqb m.ino c.args.ino in
    let at = position-same p s.made.items c.deref.result.now c.made_of.result (Some c.in-Some.at) c.deref.ensures.value c.made_of.ensures c.in-Some.is in
    let m = c.index.result.now in
    let there = slice_get-found p s.made.items c.in-Some.at m at c.index.ensures in
    moving_made c.args.self.now c.args.ino (made_seen s.stock m) c.in_ok-body-in-Some.field-0.now (made_shown c.args.self.now fs c.args.ino (Some (made_seen s.stock m)) shows (made_there s.stock s.made.items c.args.ino c.in-Some.at m at there))
    (sym (ap option_copied c.in_ok-body-in-Some.was) ∙ c.body.ensures)

pub returns-in-None : goal.returns-in-None
returns-in-None c =
    let s = c.self.inside in
    let fs = files_in s in
    let shows = subst (λ v. Shows v fs) c.self.view_is (view_shows s) in
    let p : Made → Bool = λ m. eqb m.ino c.args.ino in
    let none = made_shown c.args.self.now fs c.args.ino None shows (made_missing s.stock s.made.items c.args.ino (position-same p s.made.items c.deref.result.now c.made_of.result None c.deref.ensures.value c.made_of.ensures c.in-None.is)) in
    sym (ap (λ b. cond b None (option_map (λ (h : HoldParts). (h.kind, h.body)) (find (λ (h : HoldParts). eqb h.ino c.args.ino) s.stock.holds))) c.if-has_ino.true)
    ∙ unmade c.args.self.now fs c.args.ino c.has_ino.result (find (λ (h : HoldParts). eqb h.ino c.args.ino) s.stock.holds) shows none c.has_ino.ensures refl

pub returns-in_err-hold-in-None-2 : goal.returns-in_err-hold-in-None-2
returns-in_err-hold-in-None-2 c =
    let s = c.self.inside in
    let fs = files_in s in
    let shows = subst (λ v. Shows v fs) c.self.view_is (view_shows s) in
    let p : Made → Bool = λ m. eqb m.ino c.args.ino in
    let none = made_shown c.args.self.now fs c.args.ino None shows (made_missing s.stock s.made.items c.args.ino (position-same p s.made.items c.deref.result.now c.made_of.result None c.deref.ensures.value c.made_of.ensures c.in-None-2.is)) in
    c.from_residual-in_err-hold-in-None-2.ensures
    ∙ sym (ap (λ b. cond b None (option_map (λ (h : HoldParts). (h.kind, h.body)) None)) c.if-has_ino.false)
    ∙ unmade c.args.self.now fs c.args.ino c.has_ino.result None shows none c.has_ino.ensures (sym (ap option_copied c.in_err-hold-in-None-2.was) ∙ c.hold_on.ensures)

pub returns-in_ok-hold-in-None-2 : goal.returns-in_ok-hold-in-None-2
returns-in_ok-hold-in-None-2 c =
    let s = c.self.inside in
    let fs = files_in s in
    let shows = subst (λ v. Shows v fs) c.self.view_is (view_shows s) in
    let p : Made → Bool = λ m. eqb m.ino c.args.ino in
    let none = made_shown c.args.self.now fs c.args.ino None shows (made_missing s.stock s.made.items c.args.ino (position-same p s.made.items c.deref.result.now c.made_of.result None c.deref.ensures.value c.made_of.ensures c.in-None-2.is)) in
    let hold = c.in_ok-hold-in-None-2.hold.now in
    ap (λ k. Some (k, c.body-in-None-2.result.now)) c.kind.ensures
    ∙ ap (λ l. Some (hold.kind, l)) c.body-in-None-2.ensures.body
    ∙ sym (ap (λ b. cond b None (option_map (λ (h : HoldParts). (h.kind, h.body)) (Some hold))) c.if-has_ino.false)
    ∙ unmade c.args.self.now fs c.args.ino c.has_ino.result (Some hold) shows none c.has_ino.ensures (sym (ap option_copied c.in_ok-hold-in-None-2.was) ∙ c.hold_on.ensures)
