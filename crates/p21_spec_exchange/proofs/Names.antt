-- The canonical spelling of a name spells it; a spelling has one number, and a number one canonical spelling.
use Rattle.std.proofs.Common.{◌≡◌, ℕ, ◌^◌, ◌<◌, ◌↔◌, List, ◌∷◌, refl, ap, sym, subst, ◌∙◌}
use Rattle.p21_spec_basics.specs.Digits.{number, plain_digits}
use Rattle.p21_spec_exchange.specs.Name.{NameForm, SpellsName}
use Rattle.p21_spec_exchange.specs.Spelling.{name_spelling}
use Rattle.p21_spec_basics.proofs.PlainDigits.{plain_are_digits, plain_digits_are, plain_some}

pub name_spells : (n : ℕ) → n < 2 ^ 64 → SpellsName (name_spelling n) n
name_spells n h =
    let own = plain_digits_are n in
    record {
      form = record { digits = plain_digits n; bytes_are = refl; some_digits = plain_some _ own.0; are_digits = plain_are_digits _ own.0 };
      value_is = sym own.1;
      in_range = h;
    }

pub name_form_once : (bytes : List ℕ) (f g : NameForm bytes) → f.digits ≡ g.digits
name_form_once bytes f g =
    let both : 35 ∷ f.digits ≡ 35 ∷ g.digits = sym f.bytes_are ∙ g.bytes_are in
    (cc)

pub name_once : (bytes : List ℕ) (m n : ℕ) → SpellsName bytes m → SpellsName bytes n → m ≡ n
name_once bytes m n s t = s.value_is ∙ ap number (name_form_once bytes s.form t.form) ∙ sym t.value_is

pub same_names : (m n : ℕ) → m < 2 ^ 64 → n < 2 ^ 64 → (m ≡ n) ↔ (name_spelling m ≡ name_spelling n)
same_names m n h k = (
  λ e. ap name_spelling e,
  λ e. let Spells : List ℕ → Type 0 = λ bytes. SpellsName bytes m in name_once _ m n (subst Spells e (name_spells m h)) (name_spells n k),
)
