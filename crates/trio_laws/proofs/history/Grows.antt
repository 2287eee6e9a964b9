-- What is recorded stays recorded by each step.
use Rattle.trio_laws.proofs.Words.{◌&&◌, ◌++◌, ◌∷◌, ◌≡◌, Accepted, Allot, Back, Beside, BesideFits, Bundle, Chain, Creds, CtlAnswer, Does, Ends, Entry, Err, Event, GivenEvent, GivenTo, Grant, GrantFault, GrantKind, In, In-cases, IsAccepted, IsLegal, IsRefused, Kept, LegalFrom, LentWhole, List, Location, ModeFault, NoMemory, None, NotClosed, Ok, OpenGrant, Option, Parted, Past, Refused, Release, ReleaseEnd, ReplaysFrom, Result, Row, SetMode, Settle, Sheet, Some, State, Step, Why, [], answer_of, ap, arith, beginning, block_sheets, bundle_handed, creds_of, entry_of, eqb, event_of, filter-In, grant_fault, granted_to, inl, inr, is_accepted, is_read, length, library_of, mode_fault, moded_to, next, nodes_of, not, opened, opens, past_after, past_of, refl, refused_image, row_at, settled, sheets_in, start, subst, sym, true, ℕ}
use Rattle.std.proofs.Common.{append-nil}
use Rattle.std.specs.Option.{option_to_list}
use Rattle.trio_state.specs.Grants.{lent_sheets}
use Rattle.trio_laws.proofs.Bundles.{Closed, closed_unparted}
use Rattle.trio_laws.proofs.Cases.{after_no_grant, after_no_mode, after_allot}
use Rattle.trio_laws.proofs.Runs.{step_kept}
use Rattle.trio_laws.specs.history.Replays.{IsLibrary, Replays}
use Rattle.trio_laws.specs.history.Recorded.{Recorded, IsRecorded, HandedFits}
use Rattle.trio_laws.specs.history.HistoryLaws.{HistoryGrows}
use Rattle.trio_laws.proofs.history.RefusedStep.{refused_makes}
use Rattle.trio_laws.proofs.history.AcceptedStep.{accepted_makes}
use Rattle.trio_laws.proofs.history.AllotStep.{allot_extends}
use Rattle.trio_laws.proofs.history.BackStep.{back_extends}
use Rattle.trio_laws.proofs.history.Extends.{Makes, Comes', Extends}
use Rattle.trio_laws.proofs.history.GrantStep.{grant_extends}
use Rattle.trio_laws.proofs.history.ModeStep.{mode_extends}
use Rattle.trio_laws.proofs.history.SettleStep.{settle_extends}
use Rattle.trio_laws.proofs.history.Whole.{ends_whole}

-- ---- a log with one entry more

legal_push : (libs : List Creds) (p : Past) (es : List Entry) (q : Past) (e : Entry) → LegalFrom libs p es q → IsLegal libs q e → LegalFrom libs p (es ++ e ∷ []) (past_after libs q e)
legal_push libs p [] q e h l =
    let L : Past → Type 0 = λ x. IsLegal libs x e in (subst L h l, ap (λ x. past_after libs x e) h)
legal_push libs p (x ∷ xs) q e h l = (h.0, legal_push libs (past_after libs p x) xs q e h.1 l)

-- the entry tells of an event of a library, which hands in what was given to it, and of the answer of a step
record Replayed (s : State) (e : Entry) (s' : State) : Type 0 where
  pub mine : IsLibrary s.creds (library_of (event_of e))
  pub given : GivenEvent s (event_of e)
  pub step : Step s (event_of e) (answer_of e) s'

replays_push : (s : State) (log : List Entry) (t u : State) (e : Entry) → ReplaysFrom s log t → Replayed t e u → ReplaysFrom s (log ++ e ∷ []) u
replays_push s [] t u e r one = search (arith, Replayed)
replays_push s (x ∷ xs) t u e r one = (r.0, r.1, r.2, r.3, replays_push r.0 xs t u e r.4 one)

-- ---- no step changes the credentials

grant_creds : (s : State) (lib ino : ℕ) (kind : GrantKind) (f : Option GrantFault) (o : Option Row) → (granted_to s lib ino kind f o).after.creds ≡ s.creds
grant_creds s lib ino kind f o = search (arith, after_no_grant)

mode_creds : (s : State) (ino mode : ℕ) (f : Option ModeFault) → (moded_to s ino mode f).after.creds ≡ s.creds
mode_creds s ino mode (Some f) = after_no_mode (λ x. x.creds ≡ s.creds) s f refl refl
mode_creds s ino mode None = refl

release_creds : (s : State) (lib : ℕ) (b : Bundle) (answer : CtlAnswer) (s' : State) → ReleaseEnd s lib b answer s' → s'.creds ≡ s.creds
release_creds s lib b answer s' h = search arith

does_creds : (s : State) (event : Event) (answer : CtlAnswer) (s' : State) → Does s event answer s' → s'.creds ≡ s.creds
does_creds s event answer s' d = search (arith, grant_creds, after_allot, release_creds, mode_creds)

pub step_creds : (s : State) (event : Event) (answer : CtlAnswer) (s' : State) → Step s event answer s' → s'.creds ≡ s.creds
step_creds s event answer s' (inl does) = does_creds s event answer s' does
step_creds s event answer s' (inr none) = ap (λ (x : State). x.creds) none.2

-- ---- what grants lent stays whole

lent_from : (kind : GrantKind) (xs : List Sheet) (x : Sheet) → In x (lent_sheets kind xs) → In x xs
lent_from kind xs x i = search arith

block_whole : (s : State) (k : Kept s) (o : Result Chain Location) (x : Sheet) → In x (block_sheets (settled s).core o) → length x.bytes ≡ 4096
block_whole s k (Ok c) x i = (let q = sheets_in (settled s).core c.blocks x i in k.fit.full x.page x.bytes q.1)
block_whole s k (Err place) x i = absurd i

opened_whole : (s : State) (k : Kept s) (lib ino : ℕ) (kind : GrantKind) (r : Row) → LentWhole s → LentWhole (opens s (opened s lib ino kind r))
opened_whole s k lib ino kind r w g x i j =
    elim (In-cases g s.open_grants (opened s lib ino kind r ∷ []) i) [
      | inl old ↦ w g x old j
      | inr new ↦ search (arith, block_whole, lent_from)
    ]

grant_whole : (s : State) (k : Kept s) (lib ino : ℕ) (kind : GrantKind) (f : Option GrantFault) (o : Option Row) → LentWhole s → LentWhole (granted_to s lib ino kind f o).after
grant_whole s k lib ino kind (Some f) o w = after_no_grant LentWhole s f w w
grant_whole s k lib ino kind None None w = w
grant_whole s k lib ino kind None (Some r) w = opened_whole s k lib ino kind r w

mode_whole : (s : State) (ino mode : ℕ) (f : Option ModeFault) → LentWhole s → LentWhole (moded_to s ino mode f).after
mode_whole s ino mode (Some f) w = after_no_mode LentWhole s f w w
mode_whole s ino mode None w = w

release_whole : (s : State) (lib : ℕ) (b : Bundle) (answer : CtlAnswer) (s' : State) → ReleaseEnd s lib b answer s' → LentWhole s → LentWhole s'
release_whole s lib b answer s' (Parted n p a same) w = subst LentWhole (sym same) w
release_whole s lib b answer s' (IsAccepted p y a ends) w = ends_whole s lib b (next (settled s) b) s' ends w
release_whole s lib b answer s' (IsRefused p n why a t ends) w = ends_whole s lib b (refused_image (settled s) b) s' ends w

does_whole : (s : State) (k : Kept s) (event : Event) (answer : CtlAnswer) (s' : State) → Does s event answer s' → LentWhole s → LentWhole s'
does_whole s k (Grant lib ino kind) answer s' d w = subst LentWhole (sym d.1) (grant_whole s k lib ino kind (grant_fault s lib ino kind) (row_at s.home ino) w)
does_whole s k (Allot lib count many) answer s' d w = subst LentWhole (sym d.1) (after_allot LentWhole s lib count many w w)
does_whole s k (Back lib ino) answer s' d w =
    subst LentWhole (sym d.1) (λ g x i j. w g x (filter-In (λ (g : OpenGrant). not (eqb g.lib lib && eqb g.ino ino && is_read g.kind)) g s.open_grants i).0 j)
does_whole s k (Release lib b) answer s' d w = release_whole s lib b answer s' d w
does_whole s k (Settle lib b) answer s' d w = ends_whole s lib b (next (settled s) b) s' d.3 w
does_whole s k (SetMode lib ino mode) answer s' d w = subst LentWhole (sym d.1) (mode_whole s ino mode (mode_fault s lib ino mode (row_at s.home ino)) w)

pub step_whole : (s : State) (k : Kept s) (event : Event) (answer : CtlAnswer) (s' : State) → Step s event answer s' → LentWhole s → LentWhole s'
step_whole s k event answer s' (inl does) w = does_whole s k event answer s' does w
step_whole s k event answer s' (inr none) w = subst LentWhole (sym none.2) w

-- ---- what is recorded after a step

-- the state stays, and so does the log
same_recorded : (r : Recorded) (s' : State) → IsRecorded r → s' ≡ r.state → IsRecorded (record { first = r.first; state = s'; nodes = nodes_of s'; log = r.log ++ [] })
same_recorded r s' i e = search (arith, append-nil)

-- or an entry joins
more_recorded : (r : Recorded) (event : Event) (answer : CtlAnswer) (s' : State) (e : Entry) → IsRecorded r → IsLibrary r.state.creds (library_of event) → GivenEvent r.state event → Step r.state event answer s' → Makes r.state event answer s' e → IsRecorded (record { first = r.first; state = s'; nodes = nodes_of s'; log = r.log ++ e ∷ [] })
more_recorded r event answer s' e i mine given step m =
    let s : State = r.state in
    let c : s'.creds ≡ s.creds = step_creds s event answer s' step in
    let log : List Entry = r.log ++ e ∷ [] in
    let L : List Creds → Past → Type 0 = λ libs q. LegalFrom libs (beginning (nodes_of (start r.first libs))) log q in
    let legal : L s.creds (past_after s.creds (past_of s) e) = legal_push s.creds (beginning (nodes_of (start r.first s.creds))) r.log (past_of s) e i.legal m.legal in
    let E : Event → CtlAnswer → Type 0 = λ x a. IsLibrary s.creds (library_of x) × GivenEvent s x × Step s x a s' in
    let told : E (event_of e) (answer_of e) = subst (λ x. E x (answer_of e)) (sym m.tells) (subst (λ a. E event a) (sym m.says) (mine, given, step)) in
    let run : Replays r.first s.creds log s' = replays_push (start r.first s.creds) r.log s s' e i.replays (record { mine = told.0; given = told.1; step = told.2 }) in
    record {
      kept = step_kept s s' event answer i.kept given step;
      whole = step_whole s i.kept event answer s' step i.whole;
      stands = refl;
      legal = subst (λ libs. L libs (past_of s')) (sym c) (subst (λ q. L s.creds q) (sym m.comes) legal);
      replays = subst (λ libs. Replays r.first libs log s') (sym c) run;
    }

by_entry : (r : Recorded) (event : Event) (answer : CtlAnswer) (s' : State) (o : Option Entry) → IsRecorded r → IsLibrary r.state.creds (library_of event) → GivenEvent r.state event → Step r.state event answer s' → Comes' r.state event answer s' o → IsRecorded (record { first = r.first; state = s'; nodes = nodes_of s'; log = r.log ++ option_to_list o })
by_entry r event answer s' None i mine given step c = same_recorded r s' i c
by_entry r event answer s' (Some e) i mine given step c = more_recorded r event answer s' e i mine given step c

-- ---- each step

-- want of memory makes no entry
no_memory : (s : State) (x : Beside) (event : Event) (s' : State) → s' ≡ s → Extends s x event NoMemory s'
no_memory s x event s' e = search arith

not_closed : (s : State) (x : Beside) (lib : ℕ) (b : Bundle) (n : ℕ) (answer : CtlAnswer) (s' : State) → answer ≡ NotClosed n → s' ≡ s → Extends s x (Release lib b) answer s'
not_closed s x lib b n answer s' a e =
    let E : CtlAnswer → Type 0 = λ y. Extends s x (Release lib b) y s' in subst E (sym a) e

-- a refused release
refused_extends : (s : State) (x : Beside) (lib : ℕ) (b : Bundle) (why : Why) (s' : State) → Kept s → Kept s' → LentWhole s → LentWhole s' → GivenTo s lib b → Closed s lib b → Ends s lib b (refused_image (settled s) b) s' → (bundle_handed x.handed ≡ b) × HandedFits s lib x → Extends s x (Release lib b) (Refused why) s'
refused_extends s x lib b why s' k k' w w' given closed e t =
    let P : Bundle → Type 0 = λ c. GivenTo s lib c → Closed s lib c → Ends s lib c (refused_image (settled s) c) s' → Extends s x (Release lib c) (Refused why) s' in
    subst P t.0 (λ given closed e. refused_makes s s' k k' w w' lib x.handed given closed e t.1 why) given closed e

-- an accepted one
accepted_extends : (s : State) (x : Beside) (lib : ℕ) (b : Bundle) (s' : State) → Kept s → Kept s' → LentWhole s → GivenTo s lib b → is_accepted (settled s) (creds_of s lib) b ≡ true → Ends s lib b (next (settled s) b) s' → (bundle_handed x.handed ≡ b) × HandedFits s lib x → Extends s x (Release lib b) Accepted s'
accepted_extends s x lib b s' k k' w given accepted e t =
    let P : Bundle → Type 0 = λ c. GivenTo s lib c → is_accepted (settled s) (creds_of s lib) c ≡ true → Ends s lib c (next (settled s) c) s' → Extends s x (Release lib c) Accepted s' in
    subst P t.0 (λ given accepted e. accepted_makes s s' k k' w lib x.handed given accepted e t.1) given accepted e

release_extends : (s : State) (x : Beside) (lib : ℕ) (b : Bundle) (answer : CtlAnswer) (s' : State) → Kept s → Kept s' → LentWhole s → LentWhole s' → GivenTo s lib b → ReleaseEnd s lib b answer s' → (bundle_handed x.handed ≡ b) × HandedFits s lib x → Extends s x (Release lib b) answer s'
release_extends s x lib b answer s' k k' w w' given (Parted n p a same) t = not_closed s x lib b n answer s' a same
release_extends s x lib b answer s' k k' w w' given (IsAccepted p y a ends) t = search (arith, not_closed, accepted_extends, refused_extends, closed_unparted)
release_extends s x lib b answer s' k k' w w' given (IsRefused p n why a tells ends) t =
    let E : CtlAnswer → Type 0 = λ z. Extends s x (Release lib b) z s' in
    subst E (sym a) (refused_extends s x lib b why s' k k' w w' given (closed_unparted s lib b p) ends t)

-- a settle is one of a library that is listed
abbrev pub SettlesOwn : State → Event → Type 0
SettlesOwn s (Settle lib b) = IsLibrary s.creds lib
SettlesOwn s _ = Unit {0}

settles_own : (s : State) (event : Event) → IsLibrary s.creds (library_of event) → SettlesOwn s event
settles_own s event mine = search arith

does_extends : (s : State) (x : Beside) (event : Event) (answer : CtlAnswer) (s' : State) → Kept s → Kept s' → LentWhole s → LentWhole s' → SettlesOwn s event → GivenEvent s event → Does s event answer s' → BesideFits s x event answer s' → Extends s x event answer s'
does_extends s x (Grant lib ino kind) answer s' k k' w w' own given d t = grant_extends s k lib ino kind x answer s' d
does_extends s x (Allot lib count many) answer s' k k' w w' own given d t = allot_extends s k lib count many x answer s' d
does_extends s x (Back lib ino) answer s' k k' w w' own given d t = back_extends s k lib ino given x answer s' d
does_extends s x (Release lib b) answer s' k k' w w' own given d t = release_extends s x lib b answer s' k k' w w' given d t
does_extends s x (Settle lib b) answer s' k k' w w' own given d t = settle_extends s s' k k' w lib b own given x answer d t
does_extends s x (SetMode lib ino mode) answer s' k k' w w' own given d t = mode_extends s k lib ino mode x answer s' d t

pub step_extends : (s : State) (x : Beside) (event : Event) (answer : CtlAnswer) (s' : State) → Kept s → LentWhole s → SettlesOwn s event → GivenEvent s event → Step s event answer s' → BesideFits s x event answer s' → Extends s x event answer s'
step_extends s x event answer s' k w own given (inl does) t =
    does_extends s x event answer s' k (step_kept s s' event answer k given (inl does)) w (does_whole s k event answer s' does w) own given does t
step_extends s x event answer s' k w own given (inr none) t =
    let E : CtlAnswer → Type 0 = λ y. Extends s x event y s' in subst E (sym none.1) (no_memory s x event s' none.2)

pub history_grows : HistoryGrows
history_grows r x event answer s' i mine given step t =
    by_entry r event answer s' (entry_of r.state x event answer) i mine given step (step_extends r.state x event answer s' i.kept i.whole (settles_own r.state event mine) given step t)
