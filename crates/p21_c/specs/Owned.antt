-- What a handle owns: nothing, or a content in a block of its own; and what one owns that is lent.
use Rattle.std.specs.Prelude.{Option, None, Some}
use Rattle.std.specs.Box.Ownership.{box_owns}
use Rattle.std.specs.Coded.{Coded, coded_option}
use Rattle.std.specs.Global.{Global}
use Rattle.std.specs.contracts.impls.GlobalAllocator.TheImpl.{ghosts}
use base.Fml.{Fml, Lft, Share, feq, fex, flft, fsep}
use denote.RawPtr.{Ptr, Testable, null_ptr}
use denote.Struct.Lending.{lent_at}
use Rattle.p21_c.specs.contracts.contents.Content.{the_row}
use Rattle.p21_c.specs.declared.contents.Content.{Content}

abbrev pub handle_owns : Global → Ptr → Option Content → Fml
handle_owns alloc p None = feq Ptr p null_ptr
handle_owns alloc p (Some x) = box_owns (ghosts.dealloc_token alloc) the_row p x

-- a content that is lent for a lifetime, with a share of that lifetime's token: so it is still lent
abbrev pub lent_for : Ptr → Content → Lft × Share → Fml
lent_for p x t = fsep (flft t.0 t.1) (lent_at the_row p x t.0)

abbrev pub lent_owns : Ptr → Option Content → Fml
lent_owns p None = feq Ptr p null_ptr
lent_owns p (Some x) = fex (Testable p) (λ _. fex (Lft × Share) (lent_for p x))

-- what is held stored as numbers and lists, so that two can be told apart; nothing that is claimed rests on it
abbrev pub held_code : Coded (Option Content)
held_code = coded_option the_row.coded
