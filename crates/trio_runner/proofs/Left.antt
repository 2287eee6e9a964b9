-- What a try leaves of the calls that a session has done: its call stands behind them, with its reply.
use Rattle.trio_runner.proofs.Words.{◌++◌, ◌+◌, ◌∙◌, ◌∷◌, ◌≡◌, Bool, Busy, Creds, Directory, Given, HoldLent, IsAlike, Kind, Lease, LeavesBy, Lent, Link, List, Mode, NoMemory, None, Option, Outcome, Path, ReadLent, Regular, Replied, Reply, SessionSeen, Some, Target, Told, WriteLent, [], ap, append-nil, cond, eqb, false, is_some, length, ltb, map, map-append, name_of, new_body, new_number, noted, refl, sym, took, true, with_allotted, with_lease, with_slot, ℕ}
use Rattle.std.specs.Option.{option_map_or}
use Rattle.trio_nodes.specs.declared.call.Call as call
use Rattle.trio_nodes.specs.declared.call.Call.TheVariants as calls
use Rattle.trio_nodes.specs.declared.call.Done.{Done}
use Rattle.trio_nodes.specs.Apply.{link_mode}
use Rattle.trio_nodes.specs.declared.call.Reply.TheVariants as reply
use Rattle.trio_session.specs.Layout.{size_in}
use Rattle.trio_session.specs.Seen.{body_in, clear, empty_shown, entry_shown, fill, grown, is_allotted, place_shown, put, retitle, set_guard}
use Rattle.trio_calls_file.specs.Asks.{new_length}
use Rattle.trio_calls_file.specs.Asks as on_file
use Rattle.trio_calls_file.proofs.Writes.{calls-cut, calls-put}
use Rattle.trio_calls_dir.specs.Asks.{filled_new, linked_new, moved}
use Rattle.trio_calls_dir.specs.Asks as on_dir
use Rattle.trio_runner.specs.Logged.{call_and_reply}
use Rattle.trio_session.proofs.Alike.{calls-grown}
use Rattle.trio_session.specs.Deeds.{sized, moved_shown}

-- calls that were done, each with its reply
abbrev pub with_replies : List Done → List (call.Call × Reply)
with_replies done = map call_and_reply done

-- one call more, where a try of it is replied
abbrev pub replied : call.Call → Outcome → List (call.Call × Reply)
replied k (Replied reply) = (k, reply) ∷ []
replied k end = []

-- ---- what is taken

lease_calls : (x : SessionSeen) (lease : Lease) → (with_lease x lease).calls ≡ x.calls
lease_calls x (WriteLent f) = refl
lease_calls x (ReadLent f) = refl
lease_calls x (HoldLent h) = refl

pub took_calls : (x : SessionSeen) (tolds : List Told) → (took x tolds).calls ≡ x.calls
took_calls x [] = refl
took_calls x (Lent lease ∷ more) = took_calls (with_lease x lease) more ∙ lease_calls x lease
took_calls x (Given ps ns ∷ more) = took_calls (with_allotted x ps ns) more
took_calls x (told ∷ more) = took_calls x more

-- ---- edits

calls_if : (b : Bool) (x y z : SessionSeen) → y.calls ≡ x.calls → z.calls ≡ x.calls → (cond b y z).calls ≡ x.calls
calls_if true x y z one other = one
calls_if false x y z one other = other

calls_or : {A : Type 0} (f : A → SessionSeen) (o : Option A) (x : SessionSeen) → ((a : A) → (f a).calls ≡ x.calls) → (option_map_or f o x).calls ≡ x.calls
calls_or f None x each = refl
calls_or f (Some a) x each = each a

sized_calls : (ino size : ℕ) (x : SessionSeen) → (sized ino size x).calls ≡ x.calls
sized_calls ino size x =
    calls_if (ltb (size_in (body_in x ino)) size) x _ _ (calls-grown ino size x)
    (calls_if (ltb size (size_in (body_in x ino))) x _ _ (calls-cut ino size x) refl)

guard_calls : (ino : ℕ) (on : Bool) (x : SessionSeen) → (set_guard ino on x).calls ≡ x.calls
unfolding set_guard
guard_calls ino on x = refl

pub file_edited : (k : call.Call) (ino : ℕ) (x : SessionSeen) → (on_file.edited k ino x).calls ≡ x.calls
file_edited (calls.Write path at bytes) ino x =
    let size : ℕ = new_length (calls.Write path at bytes) (size_in (body_in x ino)) in
    calls_if (eqb (length bytes) 0) x _ _ refl (calls-put ino at bytes (sized ino size x) ∙ sized_calls ino size x)
file_edited (calls.Truncate path size) ino x = sized_calls ino size x
file_edited (calls.Guard path on) ino x = guard_calls ino on x
file_edited k ino x = refl

slot_calls : (dir : ℕ) (x : SessionSeen) → (with_slot dir x).calls ≡ x.calls
slot_calls dir x = calls_if (is_some (empty_shown x dir)) x _ _ refl (calls-grown dir (size_in (body_in x dir) + 4096) x)

fill_calls : (dir : ℕ) (name : List ℕ) (ino : ℕ) (kind : Kind) (body : List ℕ) (x : SessionSeen) → (fill dir name ino kind body x).calls ≡ x.calls
unfolding fill
fill_calls dir name ino kind body x = calls_or _ (empty_shown x dir) x (λ place. calls_if (is_allotted x ino) x _ _ refl refl)

clear_calls : (dir : ℕ) (name : List ℕ) (x : SessionSeen) → (clear dir name x).calls ≡ x.calls
unfolding clear
clear_calls dir name x = calls_or _ (place_shown x dir name) x (λ place. refl)

retitle_calls : (dir : ℕ) (old new : List ℕ) (x : SessionSeen) → (retitle dir old new x).calls ≡ x.calls
unfolding retitle
retitle_calls dir old new x = calls_or _ (place_shown x dir old) x (λ place. calls_or _ (entry_shown x dir place) x (λ e. refl))

put_calls : (ino : ℕ) (text : List ℕ) (x : SessionSeen) → (put ino 0 text (grown ino (length text) x)).calls ≡ x.calls
put_calls ino text x = calls-put ino 0 text (grown ino (length text) x) ∙ calls-grown ino (length text) x

linked_calls : (creds : Creds) (path : Path) (text : List ℕ) (t : Target) (x : SessionSeen) → (linked_new creds path text t x).calls ≡ x.calls
linked_calls creds path text t x =
    let ready : SessionSeen = with_slot t.dir x in
    put_calls (new_number x) text (fill t.dir (name_of path) (new_number x) Link (new_body creds link_mode) ready)
    ∙ fill_calls t.dir (name_of path) (new_number x) Link (new_body creds link_mode) ready ∙ slot_calls t.dir x

made_calls : (creds : Creds) (kind : Kind) (path : Path) (mode : Mode) (t : Target) (x : SessionSeen) → (filled_new creds kind path mode t x).calls ≡ x.calls
made_calls creds kind path mode t x = fill_calls t.dir (name_of path) (new_number x) kind (new_body creds mode) (with_slot t.dir x) ∙ slot_calls t.dir x

moved_calls : (from to : Path) (t : Target) (x : SessionSeen) → (moved from to t x).calls ≡ x.calls
moved_calls from to t x =
    let ready : SessionSeen = with_slot t.new_dir x in
    calls_or _ (moved_shown ready t.ino) ready
    (λ m. fill_calls t.new_dir (name_of to) t.ino m.0 m.1 (clear t.dir (name_of from) ready) ∙ clear_calls t.dir (name_of from) ready)
    ∙ slot_calls t.new_dir x

pub dir_edited : (creds : Creds) (k : call.Call) (t : Target) (x : SessionSeen) → (on_dir.edited creds k t x).calls ≡ x.calls
dir_edited creds (calls.Mkdir path mode) t x = made_calls creds Directory path mode t x
dir_edited creds (calls.Create path mode) t x = made_calls creds Regular path mode t x
dir_edited creds (calls.Symlink path text) t x = linked_calls creds path text t x
dir_edited creds (calls.Unlink path) t x = clear_calls t.dir (name_of path) x
dir_edited creds (calls.Rmdir path) t x = clear_calls t.dir (name_of path) x
dir_edited creds (calls.Rename from to) t x =
    calls_if (eqb t.dir t.new_dir) x _ _ (retitle_calls t.dir (name_of from) (name_of to) x) (moved_calls from to t x)
dir_edited creds k t x = refl

-- ---- the note

-- the session is one whose calls are these and one more
with_note : (k : call.Call) (r : Reply) (made : ℕ) (x y x' : SessionSeen) → y.calls ≡ x.calls → IsAlike (noted k r made y) x' → with_replies x'.calls ≡ with_replies x.calls ++ (k, r) ∷ []
with_note k r made x y x' same l =
    ap (λ (z : SessionSeen). with_replies z.calls) l ∙ map-append call_and_reply y.calls _ ∙ ap (λ (c : List Done). with_replies c ++ (k, r) ∷ []) same

without_note : (x x' : SessionSeen) → IsAlike x x' → with_replies x'.calls ≡ with_replies x.calls ++ []
without_note x x' l = ap (λ (z : SessionSeen). with_replies z.calls) l ∙ sym (append-nil (with_replies x.calls))

pub left_by_file : (k : call.Call) (ino : ℕ) (x : SessionSeen) (end : Outcome) (x' : SessionSeen) → on_file.Leaves k ino end x x' → with_replies x'.calls ≡ with_replies x.calls ++ replied k end
left_by_file k ino x (Replied (reply.Ok answer)) x' l = with_note k (reply.Ok answer) 0 x (on_file.edited k ino x) x' (file_edited k ino x) l
left_by_file k ino x (Replied answer) x' l = with_note k answer 0 x x x' refl l
left_by_file k ino x (Busy holder) x' l = without_note x x' l
left_by_file k ino x NoMemory x' l = without_note x x' l

pub left_by_dir : (creds : Creds) (k : call.Call) (t : Target) (x : SessionSeen) (end : Outcome) (x' : SessionSeen) → on_dir.Leaves creds k t end x x' → with_replies x'.calls ≡ with_replies x.calls ++ replied k end
left_by_dir creds k t x (Replied (reply.Ok answer)) x' l = with_note k (reply.Ok answer) (on_dir.made_by k x) x (on_dir.edited creds k t x) x' (dir_edited creds k t x) l
left_by_dir creds k t x (Replied answer) x' l = with_note k answer 0 x x x' refl l
left_by_dir creds k t x (Busy holder) x' l = without_note x x' l
left_by_dir creds k t x NoMemory x' l = without_note x x' l

-- a change of mode leaves no call
pub left_by_chmod : (all : SessionSeen) (end : Outcome) (x' : SessionSeen) → all.calls ≡ [] → LeavesBy all end x' → x'.calls ≡ []
left_by_chmod all (Replied answer) x' none l = ap (λ (z : SessionSeen). z.calls) l
left_by_chmod all (Busy holder) x' none l = ap (λ (z : SessionSeen). z.calls) l ∙ none
left_by_chmod all NoMemory x' none l = ap (λ (z : SessionSeen). z.calls) l ∙ none
