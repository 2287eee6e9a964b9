-- What a session has that searches for a file whose mode is to be changed: read leases alone.
use Rattle.trio_calls_dir.proofs.Words.{◌∙◌, ◌≡◌, Ask, DeskSeen, HasNothing, HasReadsAlone, List, Needed, Nodes, SessionSeen, Told, WalkEnd, Walked, calls_same}

-- what has nothing has nothing but read leases
pub none_alone : (s : SessionSeen) → HasNothing s → HasReadsAlone s
none_alone s none = record { parcel = none.parcel; calls = none.calls }

module _ {D : Type 0} (called : D → Ask → Told → D → Type 0) (seen : D → DeskSeen) (d : D) (s : SessionSeen) (true_of : List Needed → Nodes → Type 0) (end : WalkEnd) (d1 : D) (s1 : SessionSeen)
    (w : Walked called seen d s true_of end d1 s1) (reading : s1.parcel ≡ s.parcel) (none : HasNothing s) where
  -- so does a session that had nothing after a walk for reading
  pub reads_alone : HasReadsAlone s1
  reads_alone = record { parcel = reading ∙ none.parcel; calls = calls_same (seen d) (seen d1) s s1 w.more w.way.took ∙ none.calls }

  -- and after a look-up
  pub found_alone : (s2 : SessionSeen) → s2.parcel ≡ s1.parcel → s2.calls ≡ s1.calls → HasReadsAlone s2
  found_alone s2 parcel calls = record { parcel = parcel ∙ reads_alone.parcel; calls = calls ∙ reads_alone.calls }
