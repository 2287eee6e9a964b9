-- Sessions that differ in indexes, look-ups and room alone, and states of one desk.
use Rattle.trio_session.proofs.Words.{◌++◌, ◌+◌, ◌∙◌, ◌∷◌, ◌≡◌, Ask, Bool, Chain, Creds, DeskSeen, Done, Given, IsAlike, IsOn, IsSame, Judged, Lease, Lent, LibNo, List, ModeSet, NotGiven, NotJudged, NotLent, NotModeSet, NotSettled, Room, SameBut, SeenAfter, SessionSeen, Settled, Sizes, Told, [], ap, block_count, chain_in, cond, false, growth, length, made_chained, made_file, map, option_map_or, place_in, refl, slice_set, subst, sym, true, with_chain, with_lease, ℕ}
use Rattle.std.specs.Prelude.{is_some}
use Rattle.trio_lease.specs.declared.lease.Lease.TheVariants.{Write as WriteLease, Read as ReadLease, Hold as HoldLease}
use Rattle.trio_desk.specs.Contents.{Rights}
use Rattle.trio_session.specs.Asked.{SameDesk, took, with_allotted}
use Rattle.trio_session.specs.Seen.{grown}

-- what holds of a session, whatever its indexes, look-ups and room
pub alike_by : (P : SessionSeen → Type 0) (x s : SessionSeen) → IsAlike x s → ((is : List ℕ) (n : ℕ) (r : Room) → P (record x { indexed = is; finds = n; room = r })) → P s
alike_by P x s e h = subst P (sym e) (h s.indexed s.finds s.room)

-- but for its room
pub alike_room : (s s' : SessionSeen) → IsSame s s' → IsAlike s s'
alike_room s s' e =
    e ∙ ap (λ i. record s { indexed = i; room = s'.room }) (sym (ap (λ (x : SessionSeen). x.indexed) e))
    ∙ ap (λ f. record s { indexed = s'.indexed; finds = f; room = s'.room }) (sym (ap (λ (x : SessionSeen). x.finds) e))

-- but for its room and its indexes
pub alike_but : (x s' : SessionSeen) → SameBut x s' → IsAlike x s'
alike_but x s' b =
    let H : ℕ → SessionSeen = λ q. record x { indexed = s'.indexed; finds = q; room = s'.room } in
    b.same ∙ ap H (sym (ap (λ (y : SessionSeen). y.finds) b.same))

-- but for its look-ups
pub alike_finds : (s s' : SessionSeen) (n : ℕ) → s' ≡ record s { finds = n } → IsAlike s s'
alike_finds s s' n e = subst (λ (q : SessionSeen). IsAlike s q) (sym e) refl

pub alike_then : (x y z : SessionSeen) → IsAlike x y → IsAlike y z → IsAlike x z
alike_then x y z a b = b ∙ ap (λ (q : SessionSeen). record q { indexed = z.indexed; finds = z.finds; room = z.room }) a

pub alike_back : (x s : SessionSeen) → IsAlike x s → IsAlike s x
alike_back x s e = alike_by (λ q. IsAlike q x) x s e (λ is n r. refl)

-- an edit that goes by none of these
pub alike_edited : (F : SessionSeen → SessionSeen) → ((is : List ℕ) (n : ℕ) (r : Room) (x : SessionSeen) → F (record x { indexed = is; finds = n; room = r }) ≡ record (F x) { indexed = is; finds = n; room = r })
    → (x y : SessionSeen) → IsAlike x y → IsAlike (F x) (F y)
alike_edited F goes x y e =
    let parts : F y ≡ record (F x) { indexed = y.indexed; finds = y.finds; room = y.room } = ap F e ∙ goes y.indexed y.finds y.room x in
    parts ∙ ap (λ (q : SessionSeen). record (F x) { indexed = q.indexed; finds = q.finds; room = q.room }) (sym parts)

pub on_alike : (desk : DeskSeen) (x s : SessionSeen) → IsAlike x s → IsOn desk x → IsOn desk s
on_alike desk x s e on =
    alike_by (λ q. IsOn desk q) x s e (λ is n r. record { lib = on.lib; creds = on.creds; out = on.out; writes = on.writes; reads = on.reads; core = on.core })

-- ---- what was taken

pub took_more : (s : SessionSeen) (a b : List Told) → took s (a ++ b) ≡ took (took s a) b
took_more s [] b = refl
took_more s (Lent lease ∷ a) b = took_more (with_lease s lease) a b
took_more s (Given pages numbers ∷ a) b = took_more (with_allotted s pages numbers) a b
took_more s (NotLent f ∷ a) b = took_more s a b
took_more s (NotGiven f ∷ a) b = took_more s a b
took_more s (Done ∷ a) b = took_more s a b
took_more s (Judged x ∷ a) b = took_more s a b
took_more s (NotJudged f ∷ a) b = took_more s a b
took_more s (Settled ∷ a) b = took_more s a b
took_more s (NotSettled ∷ a) b = took_more s a b
took_more s (ModeSet ∷ a) b = took_more s a b
took_more s (NotModeSet f ∷ a) b = took_more s a b

lease_alike : (x y : SessionSeen) (lease : Lease) → IsAlike x y → IsAlike (with_lease x lease) (with_lease y lease)
lease_alike x y (WriteLease f) e = ap (λ (q : SessionSeen). with_lease q (WriteLease f)) e
lease_alike x y (ReadLease f) e = ap (λ (q : SessionSeen). with_lease q (ReadLease f)) e
lease_alike x y (HoldLease h) e = ap (λ (q : SessionSeen). with_lease q (HoldLease h)) e

pub took_alike : (x y : SessionSeen) (a : List Told) → IsAlike x y → IsAlike (took x a) (took y a)
took_alike x y [] e = e
took_alike x y (Lent lease ∷ a) e = took_alike (with_lease x lease) (with_lease y lease) a (lease_alike x y lease e)
took_alike x y (Given pages numbers ∷ a) e = took_alike (with_allotted x pages numbers) (with_allotted y pages numbers) a (ap (λ (q : SessionSeen). with_allotted q pages numbers) e)
took_alike x y (NotLent f ∷ a) e = took_alike x y a e
took_alike x y (NotGiven f ∷ a) e = took_alike x y a e
took_alike x y (Done ∷ a) e = took_alike x y a e
took_alike x y (Judged z ∷ a) e = took_alike x y a e
took_alike x y (NotJudged f ∷ a) e = took_alike x y a e
took_alike x y (Settled ∷ a) e = took_alike x y a e
took_alike x y (NotSettled ∷ a) e = took_alike x y a e
took_alike x y (ModeSet ∷ a) e = took_alike x y a e
took_alike x y (NotModeSet f ∷ a) e = took_alike x y a e

-- ---- growths

pub calls-with_chain : (ino : ℕ) (chain : Chain) (s : SessionSeen) → (with_chain ino chain s).calls ≡ s.calls
calls-with_chain ino chain s = by (is_some (made_file s ino))
  where
    by : (b : Bool) → (cond {A = SessionSeen} b (record s { made = map (made_chained ino chain) s.made }) (record s { chains = option_map_or (λ i. slice_set s.chains i chain) (place_in s ino) s.chains })).calls ≡ s.calls
    by true = refl
    by false = refl

pub calls-grown : (ino size : ℕ) (s : SessionSeen) → (grown ino size s).calls ≡ s.calls
unfolding grown
calls-grown ino size s = calls-with_chain ino _ s

pub placed-grown : (ino size : ℕ) (s : SessionSeen) → (grown ino size s).placed ≡ s.placed + growth (length (chain_in s ino).blocks) (block_count size)
unfolding grown
placed-grown ino size s = refl

-- ---- states of one desk

-- another has other things out
pub desk_same : (a b : DeskSeen) → SameDesk a b → b ≡ record a { out = b.out }
desk_same a b e =
    let desk : LibNo → Creds → Sizes → Rights → DeskSeen = λ l c z r. record { lib = l; creds = c; out = b.out; sizes = z; root = r } in
    ap (λ l. desk l b.creds b.sizes b.root) e.lib
    ∙ ap (λ c. desk a.lib c b.sizes b.root) e.creds
    ∙ ap (λ z. desk a.lib a.creds z b.root) e.sizes
    ∙ ap (desk a.lib a.creds a.sizes) e.root

pub same_seen : (desk desk' : DeskSeen) (ask : Ask) (told : Told) → SeenAfter desk ask told desk' → SameDesk desk desk'
same_seen desk desk' ask told seen = record { lib = seen.lib; creds = seen.creds; sizes = seen.sizes; root = seen.root }

pub same_then : (a b c : DeskSeen) → SameDesk a b → SameDesk b c → SameDesk a c
same_then a b c x y = record { lib = y.lib ∙ x.lib; creds = y.creds ∙ x.creds; sizes = y.sizes ∙ x.sizes; root = y.root ∙ x.root }

pub same_back : (a b : DeskSeen) → SameDesk a b → SameDesk b a
same_back a b x = record { lib = sym x.lib; creds = sym x.creds; sizes = sym x.sizes; root = sym x.root }
