-- How the words on files go together, for those who compose calls of a shelf.
use Rattle.std.specs.Prelude.{◌≡◌, ◌≢◌, ℕ, List, Bool, true, false, Option, None, Some, is_some, refl}
use Rattle.std.proofs.Common.{sym, ap, ◌∙◌, cond}
use Rattle.std.specs.Ordering.{nat_cmp, eq_by_cmp, is_eq}
use Rattle.std.specs.declared.cmp.Ordering.{Ordering}
use Rattle.std.specs.declared.cmp.Ordering.TheVariants.{Less, Equal, Greater}
use Rattle.std.proofs.lemmas.Cmp.{eq_by_cmp_equiv}
use Rattle.std.proofs.lemmas.Bool.{false_from_ne_true}
use Rattle.std.specs.Cmp.Lexicographic.{slice_cmp, nat_list_cmp_total}
use Rattle.std.specs.FinMap.{get, insert, remove, get-insert, get-remove, same_map, slice_cmp-IsAntisymmetric, nat_cmp-IsAntisymmetric}
use Rattle.hb_io.specs.Files.{Files, written, without}

shadowed : (b : Bool) (x y : Option (List ℕ)) → cond b None (cond b x y) ≡ cond b None y
shadowed true x y = refl
shadowed false x y = refl

pub remove-insert : (files : Files) (name bytes : List ℕ) → remove (insert files name bytes) name ≡ remove files name
remove-insert files name bytes =
    same_map nat_list_cmp_total (slice_cmp-IsAntisymmetric nat_cmp-IsAntisymmetric) _ _ (λ q.
    get-remove nat_list_cmp_total (insert files name bytes) name q
    ∙ ap (cond (eq_by_cmp (slice_cmp nat_cmp) q name) None) (get-insert nat_list_cmp_total files name bytes q)
    ∙ shadowed (eq_by_cmp (slice_cmp nat_cmp) q name) _ _
    ∙ sym (get-remove nat_list_cmp_total files name q))

-- a write changes the named file alone
pub without-written : (files : Option Files) (name bytes : List ℕ) → without (written files name bytes) name ≡ without files name
without-written None name bytes = refl
without-written (Some files) name bytes = ap Some (remove-insert files name bytes)

-- what is told stays told, and what is not told stays so
pub is_some-without : (files : Option Files) (name : List ℕ) → is_some (without files name) ≡ is_some files
is_some-without None name = refl
is_some-without (Some files) name = refl

pub is_some-written : (files : Option Files) (name bytes : List ℕ) → is_some (written files name bytes) ≡ is_some files
is_some-written None name bytes = refl
is_some-written (Some files) name bytes = refl

pub same_told : (new old : Option Files) (name : List ℕ) → without new name ≡ without old name → is_some new ≡ is_some old
same_told new old name e = sym (is_some-without new name) ∙ ap is_some e ∙ is_some-without old name

equal : (o : Ordering) → is_eq o ≡ true → o ≡ Equal
equal Less e = cc
equal Equal e = refl
equal Greater e = cc

differ : (q name : List ℕ) → q ≢ name → eq_by_cmp (slice_cmp nat_cmp) q name ≡ false
differ q name apart = false_from_ne_true _ (λ e. apart (slice_cmp-IsAntisymmetric nat_cmp-IsAntisymmetric q name (equal _ e)))

same : (name : List ℕ) → eq_by_cmp (slice_cmp nat_cmp) name name ≡ true
same name = (eq_by_cmp_equiv nat_list_cmp_total).refl name

-- the named file holds just what was written, and every other file what it held
pub get-written : (files : Files) (name bytes : List ℕ) → get (insert files name bytes) name ≡ Some bytes
get-written files name bytes = get-insert nat_list_cmp_total files name bytes name ∙ ap (λ b. cond b (Some bytes) (get files name)) (same name)

pub get-written_other : (files : Files) (name bytes q : List ℕ) → q ≢ name → get (insert files name bytes) q ≡ get files q
get-written_other files name bytes q apart = get-insert nat_list_cmp_total files name bytes q ∙ ap (λ b. cond b (Some bytes) (get files q)) (differ q name apart)

pub get-without_other : (files : Files) (name q : List ℕ) → q ≢ name → get (remove files name) q ≡ get files q
get-without_other files name q apart = get-remove nat_list_cmp_total files name q ∙ ap (λ b. cond b None (get files q)) (differ q name apart)

-- files that are the same but for one name hold the same at every other name
pub same_other : (new old : Files) (name q : List ℕ) → remove new name ≡ remove old name → q ≢ name → get new q ≡ get old q
same_other new old name q e apart = sym (get-without_other new name q apart) ∙ ap (λ files. get files q) e ∙ get-without_other old name q apart
