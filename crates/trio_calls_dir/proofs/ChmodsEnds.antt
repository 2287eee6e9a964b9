-- How a try of a change of mode ends: the mode is asked for, or the call is handed in with a refusal.
use Rattle.trio_calls_dir.proofs.Words.{◌++◌, ◌∙◌, ◌∷◌, ◌≡◌, ◌≢◌, Ask, BadMode, Bool, BusyMode, Call, ChmodTry, DeskSeen, Done, EndsHandedIn, EndsModed, Err, HasReadsAlone, HoldParts, In, In-is_among, In-map, InAllShown, IsAlike, IsDone, IsOn, IsRefusedAs, IsReplied, IsRetold, LeavesBy, LentFile, List, Made, MayCall, Mode, ModeFault, ModeSet, NamesOther, NoModeMemory, None, NotLive, NotMade, NotModeSet, NotOwner, NotSettled, Ok, OneCall, Option, Outcome, Parcel, RefusesSo, Replied, Reply, Result, Room, SameDesk, SessionSeen, Settled, Shown, Some, Told, TryEnd, [], ap, emptied, filter, hand_in_ask, hold_numbers, is_among, map, may_alike, may_same, may_settled, mode_ask, not, noted, refl, settle_may, settled, subst, sym, try_end, ℕ}
use Rattle.std.specs.Prelude.{MatchOption}
use Rattle.trio_lists.proofs.Filters.{filter-none}
use Rattle.trio_desk.specs.Call.{SeenAfter, SetMode, Settle, call_back}
use Rattle.trio_desk.specs.Out.{files_out, without_reads}
use Rattle.trio_session.specs.Asked.{AfterMode, AfterSettle, TellsMode}
use Rattle.trio_walk.specs.declared.attempts.TryEnd.TheVariants.{NoMemory as LacksMemory, Replied as IsRepliedTry}
use Rattle.trio_calls_dir.specs.inner.Chmods.{ComesBack, IsUnset}
use Rattle.trio_calls_dir.proofs.Ends.{may_looked}
use Rattle.trio_edit_laws.proofs.Called.{may_after}
use Rattle.trio_walk.proofs.Retrying.{unsettled}

-- a session that is empty but for its look-ups and room
emptied_by : (s s' : SessionSeen) → s' ≡ record (emptied s) { room = s'.room } → s' ≡ record (emptied s) { finds = s'.finds; room = s'.room }
emptied_by s s' e = e ∙ ap (λ f. record (emptied s) { finds = f; room = s'.room }) (sym (ap (λ (q : SessionSeen). q.finds) e))

-- ---- a change of mode

-- nothing is out beside the read leases that are handed back
nothing_beside : (desk : DeskSeen) (s : SessionSeen) → IsOn desk s → HasReadsAlone s → (n : ℕ) → In n (files_out (without_reads desk.out s.reads)) → ⊥
nothing_beside desk s on alone n i = subst (In n) none i
  where
    kept : Shown → Bool
    kept r = not (is_among r.ino (map (λ (f : Shown). f.ino) s.reads))

    all : List Shown → List Shown → List HoldParts → List ℕ
    all w r h = map (λ (f : Shown). f.ino) w ++ map (λ (f : Shown). f.ino) (filter kept r) ++ hold_numbers h

    gone : filter kept s.reads ≡ []
    gone = filter-none kept s.reads (λ f j. ap not (In-is_among f.ino (map (λ (g : Shown). g.ino) s.reads) (In-map (λ (g : Shown). g.ino) f s.reads j)))

    none : files_out (without_reads desk.out s.reads) ≡ []
    none =
        ap (λ w. all w desk.out.reads desk.out.holds) (on.out.writes ∙ ap (λ (b : Parcel). map (λ (f : LentFile). f.lent) b.writes) alone.parcel)
        ∙ ap (λ r. all [] r desk.out.holds) on.out.reads
        ∙ ap (all [] s.reads) (on.out.holds ∙ ap (λ (b : Parcel). b.holds) alone.parcel)
        ∙ ap (λ (l : List Shown). map (λ (f : Shown). f.ino) l ++ []) gone

module _ {D : Type 0} (called : D → Ask → Told → D → Type 0) (seen : D → DeskSeen) (d d' : D) (s s' : SessionSeen) (ino : ℕ) (mode : Mode) (call : Call) (result : Result (Unit {0}) (Option Call × ModeFault))
    (asked : OneCall called d (SetMode ino mode.0 s.reads (Some call)) d' (λ told. TellsMode (seen d) ino mode.0 s.reads call told (seen d') × AfterMode s call result s' told) ⊥) where
  abbrev Asked : Type 0
  Asked = OneCall called d (SetMode ino mode.0 s.reads (Some call)) d' (λ told. TellsMode (seen d) ino mode.0 s.reads call told (seen d') × AfterMode s call result s' told) ⊥

  -- how it ends
  abbrev Modes : Outcome → Type 0
  Modes end = OneCall called d (mode_ask s ino mode call) d' (λ told. EndsModed told end × LeavesBy s end s' × NamesOther s.lib end) ⊥

  pub set_same : SameDesk (seen d) (seen d')
  set_same = by asked
    where
      by : Asked → SameDesk (seen d) (seen d')
      by (Made told made then) = record { lib = then.0.seen.lib; creds = then.0.seen.creds; sizes = then.0.seen.sizes; root = then.0.seen.root }
      by (NotMade same alone) = absurd alone

  -- it was set
  pub set_done : (x : Unit {0}) → result ≡ Ok x → Modes (Replied (IsReplied IsDone))
  set_done x e = by asked
    where
      told_by : (told : Told) → called d (mode_ask s ino mode call) told d' → AfterMode s call result s' told → Modes (Replied (IsReplied IsDone))
      told_by ModeSet made after = Made ModeSet made (refl, emptied_by s s' after.1, tt)
      told_by (NotModeSet f) made after = absurd (let wrong : Ok x ≡ Err (call_back (Some call) f, f) = sym e ∙ after.0 in cc wrong)
      told_by told made after = absurd after

      by : Asked → Modes (Replied (IsReplied IsDone))
      by (Made told made then) = told_by told made then.1
      by (NotMade same alone) = absurd alone

  pub set_done_may : (x : Unit {0}) → result ≡ Ok x → IsOn (seen d') s' → MayCall (seen d') s'
  set_done_may x e on = by asked
    where
      told_by : (told : Told) → AfterMode s call result s' told → MayCall (seen d') s'
      told_by ModeSet after = may_settled (seen d') s s' after.1 on
      told_by (NotModeSet f) after = absurd (let wrong : Ok x ≡ Err (call_back (Some call) f, f) = sym e ∙ after.0 in cc wrong)
      told_by told after = absurd after

      by : Asked → MayCall (seen d') s'
      by (Made told made then) = told_by told then.1
      by (NotMade same alone) = absurd alone

  -- it was refused
  module _ (back : Option Call) (fault : ModeFault) (e : result ≡ Err (back, fault)) where
    -- so was it told, and the session is as it was
    record Refused (f : ModeFault) : Type 0 where
      made : called d (mode_ask s ino mode call) (NotModeSet f) d'
      tells : TellsMode (seen d) ino mode.0 s.reads call (NotModeSet f) (seen d')
      back_is : back ≡ call_back (Some call) f
      fault_is : fault ≡ f
      same : s' ≡ s

    refused : (f : ModeFault) × Refused f
    refused = by asked
      where
        told_by : (told : Told) → called d (mode_ask s ino mode call) told d' → TellsMode (seen d) ino mode.0 s.reads call told (seen d') → AfterMode s call result s' told → (f : ModeFault) × Refused f
        told_by ModeSet made tells after = absurd (let wrong : Err (back, fault) ≡ Ok tt = sym e ∙ after.0 in cc wrong)
        told_by (NotModeSet f) made tells after =
            let is : Err (back, fault) ≡ Err (call_back (Some call) f, f) = sym e ∙ after.0 in
            let both : (back, fault) ≡ (call_back (Some call) f, f) = cc is in
            (f, record { made = made; tells = tells; back_is = ap (λ (p : Option Call × ModeFault). p.0) both; fault_is = ap (λ (p : Option Call × ModeFault). p.1) both; same = after.1 })
        told_by told made tells after = absurd after

        by : Asked → (f : ModeFault) × Refused f
        by (Made told made then) = told_by told made then.0 then.1
        by (NotMade same alone) = absurd alone

    unset_as : (end : TryEnd ChmodTry) → IsUnset back fault end → IsUnset (call_back (Some call) refused.0) refused.0 end
    unset_as end u = subst (λ b. IsUnset b refused.0 end) refused.1.back_is (subst (λ k. IsUnset back k end) refused.1.fault_is u)

    -- by its cause, Busy or want of memory
    pub comes_back : RefusesSo (seen d) ino mode → ComesBack back fault
    comes_back so =
        let f : ModeFault = refused.0 in
        subst (λ b. ComesBack b fault) (sym refused.1.back_is) (subst (λ k. ComesBack (call_back (Some call) f) k) (sym refused.1.fault_is) (by f (so f refused.1.tells.cause)))
      where
        by : (f : ModeFault) → IsRetold f → ComesBack (call_back (Some call) f) f
        by (BusyMode holder) r = tt
        by NoModeMemory r = tt
        by NotLive r = absurd r
        by NotOwner r = absurd r
        by BadMode r = absurd r

    pub set_refused : (end : TryEnd ChmodTry) → IsUnset back fault end → IsOn (seen d) s → HasReadsAlone s → Modes (try_end end)
    set_refused end u on alone = by refused.0 refused.1 (unset_as end u)
      where
        alike : IsAlike s s'
        alike = subst (IsAlike s) (sym refused.1.same) refl

        by : (f : ModeFault) → Refused f → IsUnset (call_back (Some call) f) f end → Modes (try_end end)
        by (BusyMode holder) r is =
            let others : holder.lib ≢ s.lib = λ mine. (let n = r.tells.holder (mine ∙ on.lib) in nothing_beside (seen d) s on alone n.0 n.1) in
            subst (λ x. Modes (try_end x)) (sym is) (Made (NotModeSet (BusyMode holder)) r.made (refl, alike, others))
        by NoModeMemory r is = subst (λ x. Modes (try_end x)) (sym is) (Made (NotModeSet NoModeMemory) r.made (refl, alike, tt))
        by NotLive r is = absurd is
        by NotOwner r is = absurd is
        by BadMode r is = absurd is

    pub set_refused_may : MayCall (seen d) s → IsOn (seen d') s' → MayCall (seen d') s'
    set_refused_may may on =
        subst (λ (q : SessionSeen). MayCall (seen d') q) (sym refused.1.same) (may_same (seen d) (seen d') s set_same may (subst (λ (q : SessionSeen). IsOn (seen d') q) refused.1.same on))

-- ---- a refusal

-- the one call that was noted is taken back
unnoted : (old new : SessionSeen) (d : Done) (taken : Option Done) → MatchOption taken ((old.calls ≡ []) × (new ≡ old)) (λ done. (old.calls ≡ new.calls ++ done ∷ []) × (new ≡ record old { calls = new.calls }))
    → old.calls ≡ d ∷ [] → new ≡ record old { calls = [] }
unnoted old new d None m e = absurd (let wrong : d ∷ [] ≡ [] = sym e ∙ m.0 in cc wrong)
unnoted old new d (Some done) m e = m.1 ∙ ap (λ (cs : List Done). record old { calls = cs }) (by new.calls (sym e ∙ m.0))
  where
    by : (cs : List Done) → d ∷ [] ≡ cs ++ done ∷ [] → cs ≡ []
    by [] is = refl
    by (x ∷ []) is = absurd (let wrong : d ∷ [] ≡ x ∷ done ∷ [] = is in cc wrong)
    by (x ∷ y ∷ ys) is = absurd (let wrong : d ∷ [] ≡ x ∷ y ∷ (ys ++ done ∷ []) = is in cc wrong)

module _ {D : Type 0} (called : D → Ask → Told → D → Type 0) (seen : D → DeskSeen) (d : D) (s : SessionSeen) (call : Call) (reply : Reply) (may : MayCall (seen d) s) (alone : HasReadsAlone s) (refuses : InAllShown (seen d) s (IsRefusedAs (seen d) call reply))
    (room : Room) (s1 : SessionSeen) (kept : s1 ≡ record s { room = room }) where
  pub room_alike : IsAlike s s1
  room_alike = subst (IsAlike s) (sym kept) refl

  pub room_may : MayCall (seen d) s1
  room_may = may_alike (seen d) s s1 room_alike may

  module _ (r : Reply) (is : r ≡ reply) (s2 : SessionSeen) (note : s2 ≡ noted call r 0 s1) where
    abbrev one : Done
    one = record { call = call; reply = reply; made = 0 }

    whole : s2 ≡ noted call reply 0 (record s { room = room })
    whole = note ∙ ap (λ (x : Reply). noted call x 0 s1) is ∙ ap (noted call reply 0) kept

    pub noted_may : MayCall (seen d) s2
    noted_may =
        subst (λ (q : SessionSeen). MayCall (seen d) q) (sym (note ∙ ap (λ (x : Reply). noted call x 0 s1) is))
        (may_looked (seen d) s1 call reply room_may (subst (λ (q : SessionSeen). InAllShown (seen d) q (IsRefusedAs (seen d) call reply)) (sym kept) refuses))

    asks_it : Settle s2.parcel s2.reads s2.calls ≡ hand_in_ask s call reply
    asks_it = ap (λ (q : SessionSeen). Settle q.parcel q.reads q.calls) whole ∙ ap (λ (cs : List Done). Settle s.parcel s.reads (cs ++ one ∷ [])) alone.calls

    module _ {E : Type 0} (d' : D) (s3 : SessionSeen) (result : Result ℕ E)
        (asked : OneCall called d (Settle s2.parcel s2.reads s2.calls) d' (λ told. SeenAfter (seen d) (Settle s2.parcel s2.reads s2.calls) told (seen d') × AfterSettle s2 result s3 told) ⊥) (on : IsOn (seen d') s3) where
      -- how it ends
      abbrev Hands : TryEnd ChmodTry → SessionSeen → Type 0
      Hands end s' = OneCall called d (hand_in_ask s call reply) d' (λ told. EndsHandedIn reply told (try_end end) × LeavesBy s (try_end end) s') ((end ≡ LacksMemory) × IsAlike s s')

      -- it was handed in
      pub handed : (n : ℕ) → result ≡ Ok n → Hands (IsRepliedTry reply) s3
      handed n e =
          let t = (settled called seen d d' s2 s3 result asked on n e).0 in
          Made Settled (subst (λ a. called d a Settled d') asks_it t.made)
          (refl, emptied_by s s3 (t.empty ∙ ap (λ (q : SessionSeen). record (emptied q) { room = s3.room }) whole))

      pub handed_may : MayCall (seen d') s3
      handed_may = settle_may called seen d d' s2 s3 result asked noted_may on

      -- there was no memory, and it was taken back
      module _ (fault : E) (e : result ≡ Err fault) (s4 : SessionSeen) (taken : Option Done) (took_back : MatchOption taken ((s3.calls ≡ []) × (s4 ≡ s3)) (λ done. (s3.calls ≡ s4.calls ++ done ∷ []) × (s4 ≡ record s3 { calls = s4.calls }))) where
        same : s3 ≡ noted call reply 0 (record s { room = room })
        same = (unsettled called seen d d' s2 s3 result asked on fault e).0.same ∙ whole

        back : s4 ≡ record s { room = room; calls = [] }
        back =
            unnoted s3 s4 one taken took_back (ap (λ (q : SessionSeen). q.calls) same ∙ ap (λ (cs : List Done). cs ++ one ∷ []) alone.calls)
            ∙ ap (λ (q : SessionSeen). record q { calls = [] }) same

        alike : IsAlike s s4
        alike = subst (IsAlike s) (sym (back ∙ ap (λ (cs : List Done). record s { room = room; calls = cs }) (sym alone.calls))) refl

        pub unhanded : Hands LacksMemory s4
        unhanded =
            let t = (unsettled called seen d d' s2 s3 result asked on fault e).0 in
            Made NotSettled (subst (λ a. called d a NotSettled d') asks_it t.made) (refl, alike)

        pub unhanded_may : MayCall (seen d') s4
        unhanded_may =
            let t = (unsettled called seen d d' s2 s3 result asked on fault e).1 in
            let o = subst (λ (q : SessionSeen). IsOn (seen d') q) same on in
            may_alike (seen d') s s4 alike
            (may_after (seen d) (seen d') (Settle s2.parcel s2.reads s2.calls) NotSettled s t.seen may (record { lib = o.lib; creds = o.creds; out = o.out; writes = o.writes; reads = o.reads; core = o.core }))
