-- An edit that a call makes is noted with it.
use Rattle.trio_calls_dir.proofs.Words.{◌∙◌, ◌≡◌, Call, Changes, DeskSeen, DoesCall, Done, InAllShown, InoParts, IsDone, IsReplied, List, MayCall, Nodes, SessionSeen, ap, ino_numbers, note_done, noted, refl, spare_numbers, spare_pages}

-- the call, done, without a file that it made
abbrev pub as_done : Call → Done
as_done call = record { call = call; reply = IsReplied IsDone; made = 0 }

module _ (desk : DeskSeen) (s s' : SessionSeen) (call : Call) (change : Nodes → Nodes) (may : MayCall desk s) (changes : Changes desk s s' change)
    (calls : s'.calls ≡ s.calls) (pages : spare_pages s' ≡ spare_pages s) (numbers : spare_numbers s' ≡ spare_numbers s) (inodes : s'.parcel.inodes ≡ s.parcel.inodes)
    (does : InAllShown desk s (λ now. DoesCall desk (record { call = call; reply = IsReplied IsDone; made = 0 }) now (change now))) where
  -- with its note the session may go on
  pub may_done : MayCall desk (noted call (IsReplied IsDone) 0 s')
  may_done =
      note_done desk s s' (as_done call) change calls (λ some. absurd (some refl)) may.comes may.made changes.becomes.more changes.becomes.shows changes.may (ap (λ (l : List InoParts). ino_numbers l) inodes) (pages ∙ may.spent) (numbers ∙ may.spent_numbers) does
