-- The verdict on a bundle, and what a refusal leaves.
use Rattle.trio_laws.proofs.Words.{Accepted, Bundle, CtlAnswer, Ends, GivenTo, Image, In, In-flat, IsAccepted, IsRefused, Kept, List, NoMemory, None, NotClosed, OpenGrant, Option, Parted, Refused, Release, ReleaseEnd, Sheet, Some, State, Step, Tells, Why, Write, Written, ap, arith, both_ways, checkpoints_of, covered, creds_of, false, guard_in, guard_of, inl, inr, is_accepted, map-In, next, page_of, parted_hold, plain, refl, refused_image, settled, settled_body, sheet_numbers, slice_get, sound_parts, subst, survey, survey_local, sym, true, uncovered, with_pages_apart, ℕ, ◌++◌, ◌∙◌, ◌≡◌}
use Rattle.trio_laws.specs.Laws.{IsVerdict, IsBack, RefusalKeeps}
use Rattle.trio_laws.proofs.Agreeing.{body_still}
use Rattle.trio_laws.proofs.Bundles.{Closed, closed_unparted, in_numbers}
use Rattle.trio_laws.proofs.StateFacts.{covered_numbers}
use Rattle.trio_laws.proofs.Refusing.{agree, covered_back, fit', pages}

without_memory : (s : State) (lib : ℕ) (b : Bundle) → IsVerdict s lib b NoMemory s
without_memory s lib b = search arith

parted_back : (s : State) (lib : ℕ) (b : Bundle) (n : ℕ) → parted_hold s lib b ≡ Some n → IsVerdict s lib b (NotClosed n) s
parted_back s lib b n parted = search arith

is_accepted_then : (s s' : State) (lib : ℕ) (b : Bundle) → parted_hold s lib b ≡ None → is_accepted (settled s) (creds_of s lib) b ≡ true → settled s' ≡ next (settled s) b → IsVerdict s lib b Accepted s'
is_accepted_then s s' lib b none t settles = search (arith, both_ways)

is_refused_then : (s s' : State) (lib : ℕ) (b : Bundle) (why : Why) → parted_hold s lib b ≡ None → is_accepted (settled s) (creds_of s lib) b ≡ false → Tells s lib b why → settled s' ≡ refused_image (settled s) b → IsVerdict s lib b (Refused why) s'
is_refused_then s s' lib b why none f tells settles = record {
  parted = λ n e. absurd (cc e);
  no_memory = λ e. absurd (cc e);
  closed = λ judged. none;
  accepted = λ judged. (λ e. absurd (cc e), λ t. absurd (both_ways (is_accepted (settled s) (creds_of s lib) b) f t));
  refused = λ judged. (λ e. f, λ e. (why, refl));
  stands = λ e. absurd (cc e);
  returns = λ e. settles;
  tells = λ other e. (let same : why ≡ other = cc e in subst (Tells s lib b) same tells);
}

same_verdict : (s s' : State) (lib : ℕ) (b : Bundle) (answer given : CtlAnswer) → answer ≡ given → s' ≡ s → IsVerdict s lib b given s → IsVerdict s lib b answer s'
same_verdict s s' lib b answer given e same v = search arith

-- each release is judged, handed back or answered for want of memory
pub release_verdict : (s s' : State) (lib : ℕ) (b : Bundle) (answer : CtlAnswer) → Step s (Release lib b) answer s' → IsVerdict s lib b answer s'
release_verdict s s' lib b answer (inr none) = same_verdict s s' lib b answer NoMemory none.1 none.2 (without_memory s lib b)
release_verdict s s' lib b answer (inl does) = by_end does
  where
    by_end : ReleaseEnd s lib b answer s' → IsVerdict s lib b answer s'
    by_end (Parted n some e same) = same_verdict s s' lib b answer (NotClosed n) e same (parted_back s lib b n some)
    by_end (IsAccepted none t e ends) = (let V : CtlAnswer → Type 0 = λ a. IsVerdict s lib b a s' in subst V (sym e) (is_accepted_then s s' lib b none t ends.settles))
    by_end (IsRefused none f why e tells ends) = (let V : CtlAnswer → Type 0 = λ a. IsVerdict s lib b a s' in subst V (sym e) (is_refused_then s s' lib b why none f tells ends.settles))

-- what is to be covered of a written file is in its grant's checkpoint
covered_lent : (s : State) (k : Kept s) (lib : ℕ) (b : Bundle) (given : GivenTo s lib b) (w : Written) (p : ℕ) → In w b.writes → In p (sheet_numbers (covered Write w.kind (guard_of (settled s) w.ino) w.index w.blocks)) → In p (sheet_numbers (checkpoints_of s.open_grants))
covered_lent s k lib b given w p i j =
    let g = given.writes w i in
    let numbers : sheet_numbers g.grant.checkpoint ≡ sheet_numbers (covered Write w.kind (guard_of (settled s) w.ino) w.index w.blocks) =
    k.checkpoints g.grant g.is_open
    ∙ ap (λ t. sheet_numbers (covered t g.grant.of (guard_in g.grant.body) g.grant.index g.grant.blocks)) g.kind
    ∙ ap (λ t. sheet_numbers (covered Write t (guard_in g.grant.body) g.grant.index g.grant.blocks)) g.of
    ∙ ap (λ t. sheet_numbers (covered Write w.kind t g.grant.index g.grant.blocks)) (ap guard_in (k.bodies g.grant g.is_open) ∙ ap (guard_of (settled s)) g.ino)
    ∙ covered_numbers w.kind (guard_of (settled s) w.ino) g.grant.index w.index g.grant.blocks w.blocks (sym g.index) (sym g.blocks) in
    let x = map-In (λ (x : Sheet). x.page) p g.grant.checkpoint (subst (λ l. In p l) (sym numbers) j) in
    in_numbers (checkpoints_of s.open_grants) x.0 p (In-flat (λ (g : OpenGrant). g.checkpoint) g.grant x.0 s.open_grants g.is_open x.1) x.2

refused_back : (s s' : State) (k : Kept s) (lib : ℕ) (b : Bundle) (given : GivenTo s lib b) → Closed s lib b → Ends s lib b (refused_image (settled s) b) s' → IsBack s b s'
refused_back s s' k lib b given closed e =
    let ps : List (Option (List ℕ)) = pages s s' k lib b given closed e in
    let agrees = agree s s' k lib b given closed e in
    record {
      pages = λ page none. ap (λ (i : Image). slice_get i.core.pages page) e.settles ∙ with_pages_apart (uncovered (settled s) b ++ b.pages) (settled s).core.pages page none;
      covered = λ w page i j.
          ap (λ (i : Image). page_of i.core page) e.settles
          ∙ covered_back s s' k lib b given closed e page (covered_lent s k lib b given w page i j);
      root = ap (λ (i : Image). i.core.root) e.settles;
      bodies = λ n r row. ap (λ (i : Image). settled_body i n) e.settles ∙ body_still (settled s) ps k.fit (fit' s s' k lib b given closed e) k.verifies agrees n r row;
      files = ap (λ (i : Image). survey i.core plain) e.settles ∙ survey_local (settled s).core ps plain (sound_parts (settled s).core plain k.verifies.sound).grammar agrees;
      rows = ap (λ (i : Image). i.rows) e.settles;
      owners = ap (λ (i : Image). i.owners) e.settles;
    }

-- a refusal leaves what the checkpoint covers
pub refusal_keeps : RefusalKeeps
refusal_keeps s lib b why s' k given (inr none) = (let wrong : Refused why ≡ NoMemory = none.1 in absurd (cc wrong))
refusal_keeps s lib b why s' k given (inl does) = by_end does
  where
    by_end : ReleaseEnd s lib b (Refused why) s' → IsBack s b s'
    by_end (Parted n some e same) = absurd (cc e)
    by_end (IsAccepted none t e ends) = absurd (cc e)
    by_end (IsRefused none f other e tells ends) = refused_back s s' k lib b given (closed_unparted s lib b none) ends
