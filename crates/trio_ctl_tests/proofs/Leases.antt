-- Leases that are marked, and leases into whose pages other bytes were written.
use Rattle.std.proofs.Common.{◌≡◌, ℕ, List, [], ◌∷◌, map, Option, Some, None, Result, Ok, refl, sym, ap, subst, inl, inr, ◌∙◌}
use Rattle.std.specs.Prelude.{IfOk, IfSome}
use Rattle.std.specs.Option.{IsSomeAnd}
use Rattle.trio_page.specs.declared.page.PageNo.{PageNo}
use Rattle.trio_rights.specs.declared.rights.LibNo.{LibNo}
use Rattle.trio_nodes.specs.declared.grant.GrantKind.TheVariants.{Write}
use Rattle.trio_nodes.specs.declared.answers.GrantFault.{GrantFault}
use Rattle.trio_lists.specs.Lists.{In}
use Rattle.trio_lists.proofs.Members.{In-map, map-In}
use Rattle.trio_lease.specs.Bundles.{Bundled}
use Rattle.trio_lease.specs.Places.{with_bytes}
use Rattle.trio_lease.specs.Shown.{LentFile, Shown, all_touched, as_touched}
use Rattle.trio_lease.specs.declared.lease.Lease.{Lease}
use Rattle.trio_lease.specs.declared.lease.Lease.TheVariants.{Write as WriteLent}
use Rattle.trio_lease.specs.declared.parts.LentPage.{LentPage}
use Rattle.trio_lease.proofs.OtherBytes.{writes_same}
use Rattle.trio_layout.specs.Image.{row_at}
use Rattle.trio_state.specs.Grants.{opened}
use Rattle.trio_state.specs.State.{State}
use Rattle.trio_state.specs.Step.{Grant, Step}
use Rattle.trio_case.specs.Cases.{CaseShown}
use Rattle.trio_ctl.proofs.Given.{granted_is_lent}
use Rattle.trio_ctl.specs.Answers.{grant_answer}
use Rattle.trio_open.specs.Open.{lent_by}
use Rattle.trio_nodes.specs.Handed.{HandedFile}
use Rattle.trio_nodes.specs.declared.entry.HandedPage.{HandedPage}
use Rattle.trio_entries.specs.Handed.{block_in, file_in, handed_in}
use Rattle.trio_ctl.specs.HandedIn.{AreMarked, WasLentAs, WereLent}
use Rattle.trio_ctl_tests.specs.Leases.{AreAllTouched, AreLentAlike}

-- what was marked whole is touched
pub all_are_touched : (files : List LentFile) → AreAllTouched (map all_touched files)
all_are_touched files f i p at =
    let file = map-In all_touched f files i in
    let blocks : f.stands.blocks ≡ map as_touched file.0.stands.blocks = ap (λ (x : LentFile). x.stands.blocks) file.2 in
    let page = map-In as_touched p file.0.stands.blocks (subst (λ (l : List LentPage). In p l) blocks at) in
    ap (λ (x : LentPage). x.touched) page.2

pub touched_will_do : (s : State) (lib : ℕ) (b : Bundled) → AreAllTouched b.writes → AreMarked s lib (handed_in b)
touched_will_do s lib b touched w g p there is_open mine write same at =
    let f = map-In (λ (x : LentFile). file_in x.stands) w b.writes there in
    let q = map-In block_in p f.0.stands.blocks (subst (λ (x : HandedFile). In p x.blocks) f.2 at) in
    inl (ap (λ (x : HandedPage). x.touched) q.2 ∙ touched f.0 f.1 q.0 q.1)

-- what was lent to these was lent to leases that show the same
pub lent_alike : (s : State) (lib : ℕ) (files others : List LentFile) → AreLentAlike files others → WereLent s lib others → WereLent s lib files
lent_alike s lib files others alike lent f i =
    let same = alike f i in
    let was : WasLentAs s lib same.0 = lent same.0 same.1 in
    record {
      grant = was.grant;
      is_open = was.is_open;
      lib = was.lib;
      kind = was.kind;
      ino = was.ino ∙ same.2;
      lent = sym same.3 ∙ was.lent;
    }

-- a lease's file, and what it shows as lent
record LentOn : Type 0 where
  ino : ℕ
  lent : Shown

abbrev lent_on : LentFile → LentOn
lent_on f = record { ino = f.stands.ino; lent = f.lent }

-- other bytes in a page of a bundle leave that
pub bytes_leave_lent : (b : Bundled) (number : PageNo) (bytes : List ℕ) → AreLentAlike (with_bytes b number bytes).writes b.writes
bytes_leave_lent b number bytes f i =
    let same = writes_same lent_on (λ f at w. refl) (λ f at w. refl) b number bytes in
    let there = map-In lent_on (lent_on f) b.writes (subst (λ (l : List LentOn). In (lent_on f) l) same (In-map lent_on f (with_bytes b number bytes).writes i)) in
    (there.0, there.1, sym (ap (λ (x : LentOn). x.ino) there.2), sym (ap (λ (x : LentOn). x.lent) there.2))

-- a bundle of one lease has what was lent, where that lease has
pub alone_is_lent : (s : State) (lib : ℕ) (f : LentFile) (o : Option Bundled) → IfSome o (λ b. b.writes ≡ f ∷ []) → WasLentAs s lib f → IfSome o (λ b. WereLent s lib b.writes)
alone_is_lent s lib f None is was = tt
alone_is_lent s lib f (Some b) is was = λ x i.
    elim (subst (λ (l : List LentFile). In x l) is i) [
      | inl same ↦ subst (WasLentAs s lib) (sym same) was
      | inr none ↦ absurd none
    ]

-- a grant for writing lends what its lease shows
pub written_is_lent : (s s' : State) (ino : ℕ) (told : Result Lease GrantFault) (o : Option LentFile)
    → Step s (Grant 1 ino Write) (grant_answer told) s'
    → IfOk told (λ lease. IsSomeAnd (row_at s.home ino) (λ r. lease ≡ lent_by (opened s 1 ino Write r)))
    → IfSome o (λ f. told ≡ Ok (WriteLent f))
    → IfSome o (WasLentAs s' 1)
written_is_lent s s' ino told None step lease is = tt
written_is_lent s s' ino told (Some f) step lease is =
    granted_is_lent s s' ino f
    (subst (λ (t : Result Lease GrantFault). Step s (Grant 1 ino Write) (grant_answer t) s') is step)
    (subst (λ (t : Result Lease GrantFault). IfOk t (λ lent. IsSomeAnd (row_at s.home ino) (λ r. lent ≡ lent_by (opened s 1 ino Write r)))) is lease)

-- what the first library begins with a bundle shows what was lent, where the bundle does
pub begun_is_lent : (s s' : State) (b : Bundled) (o : Option CaseShown) → s' ≡ s → IfSome o (λ p. p.bundle ≡ b) → IfSome o (λ p. p.lib.0 ≡ 1) → WereLent s 1 b.writes → IfSome o (λ p. WereLent s' p.lib.0 p.bundle.writes)
begun_is_lent s s' b None same is lib lent = tt
begun_is_lent s s' b (Some p) same is lib lent =
    let writes : WereLent s 1 p.bundle.writes = subst (λ (x : Bundled). WereLent s 1 x.writes) (sym is) lent in
    let own : WereLent s p.lib.0 p.bundle.writes = subst (λ (n : ℕ). WereLent s n p.bundle.writes) (sym lib) writes in
    subst (λ (t : State). WereLent t p.lib.0 p.bundle.writes) (sym same) own

-- and what is judged, with other bytes in its pages
pub judged_is_lent : (s : State) (was now judged : CaseShown) → WereLent s was.lib.0 was.bundle.writes → now.lib ≡ was.lib → AreLentAlike now.bundle.writes was.bundle.writes → judged ≡ now → WereLent s judged.lib.0 judged.bundle.writes
judged_is_lent s was now judged lent lib alike is =
    let writes : WereLent s was.lib.0 now.bundle.writes = lent_alike s was.lib.0 now.bundle.writes was.bundle.writes alike lent in
    let own : WereLent s now.lib.0 now.bundle.writes = subst (λ (l : LibNo). WereLent s l.0 now.bundle.writes) (sym lib) writes in
    subst (λ (k : CaseShown). WereLent s k.lib.0 k.bundle.writes) (sym is) own

-- what begins with a bundle is marked where the bundle is
pub touched_through : (o : Option CaseShown) (b : Bundled) → IfSome o (λ p. p.bundle ≡ b) → AreAllTouched b.writes → IfSome o (λ p. AreAllTouched p.bundle.writes)
touched_through None b same touched = tt
touched_through (Some p) b same touched = subst (λ (x : Bundled). AreAllTouched x.writes) (sym same) touched
