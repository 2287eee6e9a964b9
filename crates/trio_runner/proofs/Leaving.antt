-- What holds of each state that the entries of a controller leave.
use Rattle.trio_runner.proofs.Words.{◌++◌, ◌∙◌, ◌∷◌, ◌≡◌, Creds, DeskIsLeft, Entry, Kept, Leaves, LibNo, List, Origin, OthersLeave, ReplaysFrom, State, [], desk_left, desk_of, made_by, started, step_kept, step_told, step_whole, subst, sym}
use Rattle.trio_laws.specs.history.Entries.{event_of, answer_of}
use Rattle.trio_runner.proofs.Moves.{Stands}

replays_stand : (s : State) (log : List Entry) (t : State) → Stands s → ReplaysFrom s log t → Stands t
replays_stand s [] t o r = subst Stands (sym r) o
replays_stand s (e ∷ es) t o r =
    replays_stand r.0 es t
    (record {
      kept = step_kept s r.0 (event_of e) (answer_of e) o.kept r.2 r.3;
      as_told = step_told s o.as_told (event_of e) (answer_of e) r.0 o.kept r.2 r.3;
      whole = step_whole s o.kept (event_of e) (answer_of e) r.0 r.3 o.whole;
    }) r.4

-- nothing is lent at the start
begins_standing : (first : Origin) → Kept (started first) → Stands (started first)
begins_standing first kept = record { kept = kept; as_told = λ g i. absurd i; whole = λ g x i j. absurd i }

pub left_stands : (first : Origin) (log : List Entry) (s : State) → Leaves first log s → Stands s
left_stands first log s l =
    replays_stand (started first) log s (begins_standing first l.begins)
    (subst (λ (cs : List Creds). ReplaysFrom (record (started first) { creds = cs }) log s) l.creds l.all.replays)

-- what a library's turn finds is what its seat had seen of its desk
pub found_desk : DeskIsLeft → OthersLeave → (first : Origin) (seen others : List Entry) (s : State) (lib : LibNo) → Leaves first (seen ++ others) s → made_by lib.0 others ≡ [] → desk_of s lib ≡ desk_left first seen lib
found_desk is_left others_leave first seen others s lib l none = is_left first (seen ++ others) s lib l ∙ others_leave first seen others s lib l none
