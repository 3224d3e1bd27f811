-- Plain kernel programs: without functions, which the flat list refuses (25).
use Rattle.std.specs.Prelude.{◌≡◌, false, ℕ}
use Rattle.std.proofs.Common.{arith}
use Rattle.language.specs.Trees.{Items, none}
use Rattle.language.specs.Functions.{function_count}
use Rattle.language.specs.Calls.{ItemsCallBelow, arity_in, CallsInOrder}
use Rattle.translation.specs.KernelForm.{KernelItems, KernelProgram, kernel_main, kernel_define}

-- Its items have no return and no definition, and call nothing.
pub record PlainKernel (program : Items) : Type 0 where
  pub items : KernelItems false none program
  pub calls : ItemsCallBelow (arity_in program) 0 program

pub plain-kernel : {program : Items} → function_count program ≡ 0 → KernelProgram program → CallsInOrder program → PlainKernel program
unfolding function_count
plain-kernel e (kernel_main k) order = record { items = k; calls = rw e at order.main }
plain-kernel e (kernel_define b k) order = absurd (omega arith)
