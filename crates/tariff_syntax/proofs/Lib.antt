-- atoms are read from their forms
mod AtomLaws
-- the lines of a text that are named as bad are those that have no form
mod BadLines
-- what is a condition is read
mod ConditionAgain
-- conditions are read by their grammar
mod ConditionLaws
-- what figures say is read from their forms
mod FigureLaws
-- reading a condition, a step at a time
mod GrammarSteps
-- what a line says is read from its form
mod ItemLaws
-- the laws that the crates above may cite
pub mod Laws
-- lines below one that memory ran out for
mod LineFaults
-- the lines of a text, one after another
mod LineOrder
-- the lines of a text rise in number
mod NumberLaws
-- no pair of parentheses of a printed form could go
mod ParenthesesLaws
-- the numbers of a text are in their ranges
mod Ranges
-- a text reads as the tariff that is parsed, and its first bad line is the one that is named
mod ReadsLaws
-- the printed form of a condition shows a condition
mod ShownConditions
-- the figures that are printed, and what they say
mod ShownFigures
-- the printed form of a condition shows it, with no more atoms, `not` and `(` than its line
mod ShownGrammar
-- the printed form of a tariff reads as that tariff
mod ShownLines
-- a printed line shows its tokens, from its end to its front
mod Shows
-- the parts of an entry come to the table of lines
mod TableLines
-- the lines of a text are cut at its line feeds
mod TextLaws
-- the tokens of a line are those that stand in it
mod TokenLaws
-- the tokens of a line, one after another
mod TokenOrder
-- tools for reading that may fail
mod Tools
