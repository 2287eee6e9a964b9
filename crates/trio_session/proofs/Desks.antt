-- A session on its desk.
use Rattle.trio_session.proofs.Words.{◌∙◌, ◌≡◌, ◌⊎◌, AfterGrant, AfterSettle, Ask, Creds, DeskSeen, Done, Err, Given, In, In-is_among, In-map, IsOn, IsSame, IsWellLent, Judged, Laid, Lease, Lent, LentFile, LibNo, LibOut, List, MadeFile, ModeSet, NoGrantMemory, NotGiven, NotJudged, NotLent, NotModeSet, NotSettled, Ok, Parcel, Result, Room, SameBut, SeenAfter, SessionSeen, SetMode, Settled, Shown, Sizes, Told, [], ap, chains_laid, emptied, eqb, false, filter, filter-none, find-In, has_out, inl, ino_numbers, inr, is_among, is_core, map, not, nothing, page_numbers, refl, subst, sym, true, with_lease, ℕ}
use Rattle.std.specs.Prelude.{◌↔◌, IfErr, IsTrue, Option}
use Rattle.trio_nodes.specs.declared.call.Call.{Call}
use Rattle.trio_nodes.specs.declared.call.Done.{Done as CallDone}
use Rattle.trio_desk.specs.Out.{OutAlike, without_reads}
use Rattle.trio_desk.specs.Call.{out_after}
use Rattle.trio_session.specs.Seen.{HasReadsAlone}
use Rattle.trio_session.specs.Asked.{AfterNeed, settle_end}
use Rattle.trio_session.specs.inner.Indexes.{MayBeRead}
use Rattle.trio_session.proofs.Slots.{well_read}
use Rattle.trio_nodes.specs.declared.answers.GrantFault.{GrantFault}

pub alike_trans : (a b c : LibOut) → OutAlike a b → OutAlike b c → OutAlike a c
alike_trans a b c p q = record {
  writes = p.writes ∙ q.writes;
  reads = p.reads ∙ q.reads;
  holds = p.holds ∙ q.holds;
  pages = λ n. ((λ i. (q.pages n).0 ((p.pages n).0 i)), (λ i. (p.pages n).1 ((q.pages n).1 i)));
  numbers = λ n. ((λ i. (q.numbers n).0 ((p.numbers n).0 i)), (λ i. (p.numbers n).1 ((q.numbers n).1 i)));
}

-- an answer that leaves what is out leaves the session on its desk
pub on_still : (d d' : DeskSeen) (ask : Ask) (told : Told) (s : SessionSeen) → SeenAfter d ask told d' → out_after d.out ask told ≡ d.out → IsOn d s → IsOn d' s
on_still d d' ask told s seen same on = record {
  lib = on.lib ∙ sym seen.lib;
  creds = on.creds ∙ sym seen.creds;
  out = alike_trans d'.out d.out (has_out s) (subst (OutAlike d'.out) same seen.out) on.out;
  writes = λ f i. subst (λ (z : Sizes). IsWellLent z f) (sym seen.sizes) (on.writes f i);
  reads = λ f i. subst (λ (z : Sizes). IsWellLent z f) (sym seen.sizes) (on.reads f i);
  core = λ n i. subst (λ (z : Sizes). IsTrue (is_core z.range n)) (sym seen.sizes) (on.core n i);
}

-- a session that handed all in
pub empty_now : (s : SessionSeen) (lib : LibNo) (creds : Creds) (stock : Parcel) (laid : List Laid) (made cleared : List MadeFile) (reads : List Shown) (calls : List CallDone) (indexed : List ℕ) (finds : ℕ) (room : Room)
    → lib ≡ s.lib → creds ≡ s.creds → stock ≡ nothing → made ≡ [] → cleared ≡ [] → reads ≡ [] → calls ≡ [] → indexed ≡ [] → finds ≡ s.finds
    → (let t : SessionSeen = record { lib = lib; creds = creds; parcel = stock; chains = chains_laid stock.writes stock.pages laid; made = made; cleared = cleared; reads = reads; calls = calls; placed = 0; indexed = indexed; finds = finds; room = room } in t)
    ≡ record (emptied s) { room = room }
empty_now s lib creds stock laid made cleared reads calls indexed finds room el ec es em eg er ek ei ef =
    let view : LibNo → Creds → Parcel → List MadeFile → List MadeFile → List Shown → List CallDone → List ℕ → ℕ → SessionSeen =
    λ l c p m g r k ns n. record { lib = l; creds = c; parcel = p; chains = chains_laid p.writes p.pages laid; made = m; cleared = g; reads = r; calls = k; placed = 0; indexed = ns; finds = n; room = room } in
    ap (λ l. view l creds stock made cleared reads calls indexed finds) el ∙ ap (λ c. view s.lib c stock made cleared reads calls indexed finds) ec ∙ ap (λ p. view s.lib s.creds p made cleared reads calls indexed finds) es
    ∙ ap (λ m. view s.lib s.creds nothing m cleared reads calls indexed finds) em ∙ ap (λ g. view s.lib s.creds nothing [] g reads calls indexed finds) eg
    ∙ ap (λ r. view s.lib s.creds nothing [] [] r calls indexed finds) er ∙ ap (λ k. view s.lib s.creds nothing [] [] [] k indexed finds) ek
    ∙ ap (λ ns. view s.lib s.creds nothing [] [] [] [] ns finds) ei ∙ ap (λ n. view s.lib s.creds nothing [] [] [] [] [] n) ef

-- a session that is the same but for its room
pub same_but : (s s' : SessionSeen) → s' ≡ record s { room = s'.room } → SameBut s s'
same_but s s' e =
    let dirs : s'.indexed ≡ s.indexed = ap (λ (x : SessionSeen). x.indexed) e in
    record { same = e ∙ ap (λ ns. record s { indexed = ns; room = s'.room }) (sym dirs); indexed = λ n i. subst (In n) (sym dirs) i }

-- a session that handed back its read leases, and had nothing else
pub on_moded : (d d' : DeskSeen) (ino mode : ℕ) (call : Option Call) (s : SessionSeen) (room : Room)
    → SeenAfter d (SetMode ino mode s.reads call) ModeSet d' → HasReadsAlone s → IsOn d s → IsOn d' (record (emptied s) { room = room })
on_moded d d' ino mode call s room seen alone on = record {
  lib = on.lib ∙ sym seen.lib;
  creds = on.creds ∙ sym seen.creds;
  out = alike_trans d'.out (without_reads d.out s.reads) (has_out (emptied s)) seen.out (record {
    writes = on.out.writes ∙ ap (λ (p : Parcel). map (λ (f : LentFile). f.lent) p.writes) alone.parcel;
    reads = ap (filter (λ (r : Shown). not (is_among r.ino (map (λ (f : Shown). f.ino) s.reads)))) on.out.reads
        ∙ filter-none (λ (r : Shown). not (is_among r.ino (map (λ (f : Shown). f.ino) s.reads))) s.reads
        (λ f i. ap not (In-is_among f.ino (map (λ (g : Shown). g.ino) s.reads) (In-map (λ (g : Shown). g.ino) f s.reads i)));
    holds = on.out.holds ∙ ap (λ (p : Parcel). p.holds) alone.parcel;
    pages = λ n. subst (λ (p : Parcel). In n d.out.pages ↔ In n (page_numbers p.pages)) alone.parcel (on.out.pages n);
    numbers = λ n. subst (λ (p : Parcel). In n d.out.numbers ↔ In n (ino_numbers p.inodes)) alone.parcel (on.out.numbers n);
  });
  writes = λ f i. absurd i;
  reads = λ f i. absurd i;
  core = λ n i. absurd i;
}

-- room is none of what a desk lists
pub on_room : (d : DeskSeen) (s : SessionSeen) (room : Room) → IsOn d s → IsOn d (record s { room = room })
on_room d s room on = record { lib = on.lib; creds = on.creds; out = on.out; writes = on.writes; reads = on.reads; core = on.core }

-- nor is an index
pub on_indexed : (d : DeskSeen) (s s' : SessionSeen) → s' ≡ record s { indexed = s'.indexed; room = s'.room } → IsOn d s → IsOn d s'
on_indexed d s s' e on = subst (IsOn d) (sym e) (record { lib = on.lib; creds = on.creds; out = on.out; writes = on.writes; reads = on.reads; core = on.core })

-- what is lent for reading on a desk may be read
pub may_read : (d : DeskSeen) (s : SessionSeen) (ino : ℕ) → IsOn d s → MayBeRead s.reads ino
may_read d s ino on = λ f e dir. well_read d.sizes f (on.reads f (find-In (λ (g : Shown). eqb g.ino ino) s.reads f e).0) dir

-- a session that is the same but for its room, and then for directories that got their index
pub but_indexed : (s t s' : SessionSeen) → t ≡ record s { room = t.room } → s' ≡ record t { indexed = s'.indexed; room = s'.room } → ((n : ℕ) → In n t.indexed → In n s'.indexed) → SameBut s s'
but_indexed s t s' et es more =
    let dirs : t.indexed ≡ s.indexed = ap (λ (x : SessionSeen). x.indexed) et in
    record {
      same = es ∙ ap (λ (x : SessionSeen). record x { indexed = s'.indexed; room = s'.room }) et;
      indexed = λ n i. more n (subst (In n) (sym dirs) i);
    }

-- what was told of a grant that was given
pub told_lent : (s t : SessionSeen) (told : Told) → AfterGrant s (Ok tt) t told → (lease : Lease) × (told ≡ Lent lease) × IsSame (with_lease s lease) t
told_lent s t (Lent lease) after = (lease, refl, after.1)
told_lent s t (NotLent fault) after = absurd (let e : Ok tt ≡ Err fault = after.0 in cc e)
told_lent s t (Given pages numbers) after = absurd after
told_lent s t (NotGiven fault) after = absurd after
told_lent s t Done after = absurd after
told_lent s t (Judged answer) after = absurd after
told_lent s t (NotJudged fault) after = absurd after
told_lent s t Settled after = absurd after
told_lent s t NotSettled after = absurd after
told_lent s t ModeSet after = absurd after
told_lent s t (NotModeSet fault) after = absurd after

-- a need that was asked, by its grant
pub need_granted : (s t s' : SessionSeen) (r : Result Unit GrantFault) (told : Told) → AfterGrant s (Ok tt) t told → s' ≡ record t { indexed = s'.indexed; room = s'.room }
    → ((n : ℕ) → In n t.indexed → In n s'.indexed) → (r ≡ Ok tt) ⊎ (r ≡ Err NoGrantMemory) → AfterNeed s r s' told
need_granted s t s' r told after es more which =
    let by = told_lent s t told after in
    subst (AfterNeed s r s') (sym by.1) (which, but_indexed (with_lease s by.0) t s' by.2 es more)

-- and without one
pub need_denied : (s s' : SessionSeen) (why : GrantFault) (told : Told) → AfterGrant s (Err why) s' told → AfterNeed s (Err why) s' told
need_denied s s' why (Lent lease) after = absurd (let e : Err why ≡ Ok tt = after.0 in cc e)
need_denied s s' why (NotLent fault) after = (after.0, same_but s s' after.1)
need_denied s s' why (Given pages numbers) after = absurd after
need_denied s s' why (NotGiven fault) after = absurd after
need_denied s s' why Done after = absurd after
need_denied s s' why (Judged answer) after = absurd after
need_denied s s' why (NotJudged fault) after = absurd after
need_denied s s' why Settled after = absurd after
need_denied s s' why NotSettled after = absurd after
need_denied s s' why ModeSet after = absurd after
need_denied s s' why (NotModeSet fault) after = absurd after

-- what an index leaves of an answer
pub indexed_or_not : (r : Result Unit GrantFault) → IfErr r (λ fault. fault ≡ NoGrantMemory) → (r ≡ Ok tt) ⊎ (r ≡ Err NoGrantMemory)
indexed_or_not (Ok tt) h = inl refl
indexed_or_not (Err fault) h = inr (ap Err h)

-- a settle is told as it ended
pub told-settle_end : {E : Type 0} (s s' : SessionSeen) (r : Result ℕ E) (told : Told) → AfterSettle s r s' told → told ≡ settle_end r
told-settle_end s s' r (Lent lease) after = absurd after
told-settle_end s s' r (NotLent fault) after = absurd after
told-settle_end s s' r (Given pages numbers) after = absurd after
told-settle_end s s' r (NotGiven fault) after = absurd after
told-settle_end s s' r Done after = absurd after
told-settle_end s s' r (Judged answer) after = absurd after
told-settle_end s s' r (NotJudged fault) after = absurd after
told-settle_end s s' r Settled after = sym (ap settle_end after.0)
told-settle_end s s' (Ok count) NotSettled after = absurd (let e : false ≡ true = after.0 in cc e)
told-settle_end s s' (Err fault) NotSettled after = refl
told-settle_end s s' r ModeSet after = absurd after
told-settle_end s s' r (NotModeSet fault) after = absurd after
